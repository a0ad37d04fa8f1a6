-- Keys that are counted once.
use Rattle.std.proofs.Common.{◌≡◌, ◌≢◌, ℕ, suc, zero, ◌+◌, ◌<◌, ◌≤◌, add-one, take, get_or, sum_by, All, Bool, true, false, ◌||◌, ◌&&◌, List, [], ◌∷◌, ◌++◌, length, map, Ordering, Less, Equal, Greater, Option, Some, None, Bor, refl, sym, ap, ◌∙◌, arith, subst, append_assoc, length-append}
use Rattle.std.specs.Prelude.{not, is_some, slice_get, if◌then◌else◌}
use Rattle.std.specs.BTreeMap.{BTreeMap, insert_entry, is_at}
use Rattle.std.specs.List.{list_any, flat_map}
use Rattle.std.specs.Map.{lookup}
use Rattle.std.specs.Option.{option_copied}
use Rattle.std.proofs.Math.Seq.{take-suc}
use Rattle.std.proofs.lemmas.Bool.{le-ltb, lt-ltb}
use Rattle.std.proofs.Math.Bool.{or-false}
use Rattle.std.proofs.lemmas.List.{append-nil, length-map, map_more, take_all}
use Rattle.std.proofs.lemmas.List.Concat.{flat_map-append}
use Rattle.std.proofs.lemmas.List.Elements.{All-head, All-tail}
use Rattle.std.proofs.lemmas.List.Sums.{sum_by-append}
use Rattle.std.specs.Ordering.{is_eq, match_ordering, ordering_reverse}
use Rattle.std.proofs.lemmas.List.Folds.{list_any-append}
use Rattle.cell_core.specs.Limits.{max_rows}
use Rattle.cell_core.specs.Cells.{cell_order, same_cell}
use Rattle.cell_core.specs.contracts.cell.CellOrd.TheImpl.{ghosts}
use Rattle.cell_core.specs.declared.cell.Cell.{Cell}
use Rattle.cell_core.proofs.CellOrder.{derived_order, exact, total}
use Rattle.cell_core.specs.declared.schema.Keeping.{Keeping}
use Rattle.cell_core.specs.declared.schema.Keeping.TheVariants.{Indexed, Limited, Free}
use Rattle.plain_data.specs.Distinct.{AreDistinct}
use Rattle.row_batch.specs.Batches.{key_in, rows_in}
use Rattle.row_batch.specs.Changes.{row_at}
use Rattle.row_batch.specs.Tables.{keys_of_rows}
use Rattle.row_batch.specs.declared.batch.Batch.{Batch}
use Rattle.row_batch.specs.declared.batch.Batch.TheVariants as batch
use Rattle.row_batch.specs.declared.batch.Pair.{Pair}
use Rattle.row_batch.specs.declared.batch.PatchCell.{PatchCell}
use Rattle.hub_ports.specs.Ports.{PortsData, waiting_on}
use Rattle.hub_ports.specs.declared.ports.Port.{Port}
use Rattle.hub_spec.specs.Room.{different, keys_put, rows_of_all}
use Rattle.table_core.specs.Tables.{TableData}
use Rattle.hub_core.specs.Rooms.{IsCounted, over, room_taken}

abbrev Entry : Type 0
Entry = Cell × Unit {0}

-- ---- one cell or another

is_equal : (o : Ordering) → is_eq o ≡ true → o ≡ Equal
is_equal Less h = absurd (cc)
is_equal Equal h = refl
is_equal Greater h = absurd (cc)

same_is : (a b : Cell) → same_cell a b ≡ true → a ≡ b
same_is a b h = exact a b (is_equal (cell_order a b) h)

reverse_eq : (o : Ordering) → is_eq (ordering_reverse o) ≡ is_eq o
reverse_eq Less = refl
reverse_eq Equal = refl
reverse_eq Greater = refl

same_sym : (a b : Cell) → same_cell a b ≡ same_cell b a
same_sym a b = ap is_eq (total.antisymm a b) ∙ reverse_eq (cell_order b a)

pub any-snoc : (test : Cell → Bool) (ks : List Cell) (k : Cell) → list_any test (ks ++ k ∷ []) ≡ (list_any test ks || test k)
any-snoc test ks k = list_any-append test ks (k ∷ []) ∙ ap (λ b. list_any test ks || b) (or-false (test k))

-- ---- how many are different

counted_by : (a b s : Bool) (d : ℕ) → (s ≡ true → a ≡ b)
    → (if a || s then (if b then d else d + 1) else (if b then d else d + 1) + 1)
    ≡ (if s || b then (if a then d else d + 1) else (if a then d else d + 1) + 1)
counted_by a b true d same = counted_same a b d (same refl)
  where
    counted_same : (x y : Bool) (n : ℕ) → x ≡ y → (if x || true then (if y then n else n + 1) else (if y then n else n + 1) + 1) ≡ (if x then n else n + 1)
    counted_same true true n e = refl
    counted_same true false n e = absurd (cc)
    counted_same false true n e = absurd (cc)
    counted_same false false n e = refl
counted_by true true false d same = refl
counted_by true false false d same = refl
counted_by false true false d same = refl
counted_by false false false d same = refl

pub different-snoc : (ks : List Cell) (k : Cell) → different (ks ++ k ∷ []) ≡ (if list_any (same_cell k) ks then different ks else different ks + 1)
different-snoc [] k = refl
different-snoc (x ∷ xs) k =
    let twice : same_cell x k ≡ true → list_any (same_cell x) xs ≡ list_any (same_cell k) xs = λ e. ap (λ c. list_any (same_cell c) xs) (same_is x k e) in
    rw (any-snoc (same_cell x) xs k, different-snoc xs k)
    (counted_by (list_any (same_cell x) xs) (list_any (same_cell k) xs) (same_cell x k) (different xs) twice
    ∙ ap (λ b. if b || list_any (same_cell k) xs then different (x ∷ xs) else different (x ∷ xs) + 1) (same_sym x k))

-- ---- what is found

abbrev Found : Cell → Entry → Bool
Found q e = same_cell q e.0

or_swap : (a b c : Bool) → (a || (b || c)) ≡ (b || (a || c))
or_swap true true c = refl
or_swap true false c = refl
or_swap false b c = refl

inserted_by : (o : Ordering) (q k : Cell) (e : Entry) (es more : List Entry) → is_eq o ≡ false
    → list_any (Found q) more ≡ (same_cell q k || list_any (Found q) es)
    → list_any (Found q) (match_ordering o ((k, tt) ∷ e ∷ es) ((e.0, tt) ∷ es) (e ∷ more)) ≡ (same_cell q k || list_any (Found q) (e ∷ es))
inserted_by Less q k e es more apart ih = refl
inserted_by Equal q k e es more apart ih = absurd (cc)
inserted_by Greater q k e es more apart ih = ap (λ b. same_cell q e.0 || b) ih ∙ or_swap (same_cell q e.0) (same_cell q k) (list_any (Found q) es)

both_false : (a b : Bool) → (a || b) ≡ false → (a ≡ false) × (b ≡ false)
both_false true b h = absurd (cc)
both_false false b h = (refl, h)

inserted : (q k : Cell) (es : List Entry) → list_any (Found k) es ≡ false
    → list_any (Found q) (insert_entry ghosts.cmp es k tt) ≡ (same_cell q k || list_any (Found q) es)
inserted q k [] none = refl
inserted q k (e ∷ es) none =
    let parts = both_false (same_cell k e.0) (list_any (Found k) es) none in
    inserted_by (ghosts.cmp k e.0) q k e es (insert_entry ghosts.cmp es k tt) (ap is_eq (derived_order k e.0) ∙ parts.0) (inserted q k es parts.1)

longer_by : (o : Ordering) (k : Cell) (e : Entry) (es more : List Entry) → is_eq o ≡ false → length more ≡ length es + 1
    → length (match_ordering o ((k, tt) ∷ e ∷ es) ((e.0, tt) ∷ es) (e ∷ more)) ≡ length (e ∷ es) + 1
longer_by Less k e es more apart ih = omega arith
longer_by Equal k e es more apart ih = absurd (cc)
longer_by Greater k e es more apart ih = omega (arith, ih)

longer : (k : Cell) (es : List Entry) → list_any (Found k) es ≡ false → length (insert_entry ghosts.cmp es k tt) ≡ length es + 1
longer k [] none = refl
longer k (e ∷ es) none =
    let parts = both_false (same_cell k e.0) (list_any (Found k) es) none in
    longer_by (ghosts.cmp k e.0) k e es (insert_entry ghosts.cmp es k tt) (ap is_eq (derived_order k e.0) ∙ parts.0) (longer k es parts.1)

looked_up : (k : Cell) (es : List Entry) → is_some (lookup (is_at (ghosts.cmp k)) es) ≡ list_any (Found k) es
looked_up k [] = refl
looked_up k (e ∷ es) =
    let at : is_at (ghosts.cmp k) e.0 ≡ same_cell k e.0 = ap is_eq (derived_order k e.0) in
    rw at (elim (same_cell k e.0) as (λ b. is_some (if b then Some e.1 else lookup (is_at (ghosts.cmp k)) es) ≡ (b || list_any (Found k) es)) [
      | true ↦ refl
      | false ↦ looked_up k es
    ])

-- ---- one key more

-- a key that a row has, or that was found before
pub known_key : (rows keys : List Cell) (found : BTreeMap Cell (Unit {0})) (k : Cell) → (list_any (same_cell k) rows || list_any (Found k) found.entries) ≡ true
    → IsCounted rows found keys → IsCounted rows found (keys ++ k ∷ [])
known_key rows keys found k known c =
    let here : list_any (same_cell k) (rows ++ keys) ≡ true = list_any-append (same_cell k) rows keys ∙ seen (list_any (same_cell k) rows) (list_any (same_cell k) keys) (list_any (Found k) found.entries) (c.has k) known in
    record {
      count = c.count ∙ sym (ap different (sym (append_assoc rows keys (k ∷ []))) ∙ different-snoc (rows ++ keys) k ∙ ap (λ b. if b then different (rows ++ keys) else different (rows ++ keys) + 1) here);
      has = λ q. c.has q ∙ stays q ∙ ap (λ b. not (list_any (same_cell q) rows) && b) (sym (any-snoc (same_cell q) keys k));
    }
  where
    seen : (r ks f : Bool) → f ≡ (not r && ks) → (r || f) ≡ true → (r || ks) ≡ true
    seen true ks f e h = refl
    seen false ks f e h = sym e ∙ h

    stays_by : (r ks s : Bool) → (s ≡ true → (r || ks) ≡ true) → (not r && ks) ≡ (not r && (ks || s))
    stays_by true ks s h = refl
    stays_by false true s h = refl
    stays_by false false true h = absurd (let wrong : false ≡ true = h refl in cc)
    stays_by false false false h = refl

    stays : (q : Cell) → (not (list_any (same_cell q) rows) && list_any (same_cell q) keys) ≡ (not (list_any (same_cell q) rows) && (list_any (same_cell q) keys || same_cell q k))
    stays q =
        stays_by (list_any (same_cell q) rows) (list_any (same_cell q) keys) (same_cell q k)
        (λ e. ap (λ x. list_any (same_cell x) rows || list_any (same_cell x) keys) (same_is q k e)
        ∙ seen (list_any (same_cell k) rows) (list_any (same_cell k) keys) (list_any (Found k) found.entries) (c.has k) known)

not_any : (r ks f : Bool) → f ≡ (not r && ks) → r ≡ false → f ≡ false → ks ≡ false
not_any true ks f e is none = absurd (cc)
not_any false ks f e is none = sym e ∙ none

joins_by : (r ks s : Bool) → (s ≡ true → r ≡ false) → (s || (not r && ks)) ≡ (not r && (ks || s))
joins_by true ks true h = absurd (let wrong : true ≡ false = h refl in cc)
joins_by true ks false h = refl
joins_by false true true h = refl
joins_by false true false h = refl
joins_by false false true h = refl
joins_by false false false h = refl

-- a key that no row has and that is new
pub new_key : (rows keys : List Cell) (found more : BTreeMap Cell (Unit {0})) (k : Cell) → list_any (same_cell k) rows ≡ false → list_any (Found k) found.entries ≡ false
    → more.entries ≡ insert_entry ghosts.cmp found.entries k tt
    → IsCounted rows found keys → IsCounted rows more (keys ++ k ∷ [])
new_key rows keys found more k out none put c =
    let fresh : list_any (same_cell k) keys ≡ false = not_any (list_any (same_cell k) rows) (list_any (same_cell k) keys) (list_any (Found k) found.entries) (c.has k) out none in
    let here : list_any (same_cell k) (rows ++ keys) ≡ false = list_any-append (same_cell k) rows keys ∙ (rw (out, fresh) refl) in
    let one_more : different (rows ++ (keys ++ k ∷ [])) ≡ different (rows ++ keys) + 1 =
    ap different (sym (append_assoc rows keys (k ∷ []))) ∙ different-snoc (rows ++ keys) k ∙ ap (λ b. if b then different (rows ++ keys) else different (rows ++ keys) + 1) here in
    let size : length more.entries ≡ length found.entries + 1 = ap length put ∙ longer k found.entries none in
    record {
      count = omega (arith, size, one_more, c.count);
      has = λ q.
          ap (list_any (Found q)) put ∙ inserted q k found.entries none ∙ ap (λ b. same_cell q k || b) (c.has q)
          ∙ joins_by (list_any (same_cell q) rows) (list_any (same_cell q) keys) (same_cell q k)
          (λ e. ap (λ x. list_any (same_cell x) rows) (same_is q k e) ∙ out)
          ∙ ap (λ b. not (list_any (same_cell q) rows) && b) (sym (any-snoc (same_cell q) keys k));
    }

pub looked_up_is : (k : Cell) (found : BTreeMap Cell (Unit {0})) → is_some (lookup (is_at (ghosts.cmp k)) found.entries) ≡ list_any (Found k) found.entries
looked_up_is k found = looked_up k found.entries

-- ---- the keys of rows

any-keys : (k : Cell) (pairs : List Pair) → list_any (same_cell k) (keys_of_rows pairs) ≡ list_any (λ p. same_cell k p.key) pairs
any-keys k [] = refl
any-keys k (p ∷ ps) = ap (λ b. same_cell k p.key || b) (any-keys k ps)

row_there : (k : Cell) (pairs : List Pair) → is_some (row_at pairs k) ≡ list_any (λ p. same_cell k p.key) pairs
row_there k [] = refl
row_there k (p ∷ ps) =
    elim (same_cell k p.key) as (λ b. is_some (if b then Some p.row else row_at ps k) ≡ (b || list_any (λ q. same_cell k q.key) ps)) [
      | true ↦ refl
      | false ↦ row_there k ps
    ]

some_copied : (o : Option (Bor (List Cell))) → is_some o ≡ is_some (option_copied o)
some_copied None = refl
some_copied (Some row) = refl

-- a row is found where one has the key
pub row_found : (k : Cell) (pairs : List Pair) (o : Option (Bor (List Cell))) → option_copied o ≡ row_at pairs k → is_some o ≡ list_any (λ p. same_cell k p.key) pairs
row_found k pairs o is = some_copied o ∙ ap is_some is ∙ row_there k pairs

pub no_row_has : (k : Cell) (pairs : List Pair) (r : Bool) → r ≡ list_any (λ p. same_cell k p.key) pairs → r ≡ false → list_any (same_cell k) (keys_of_rows pairs) ≡ false
no_row_has k pairs r is none = any-keys k pairs ∙ sym is ∙ none

or_right : (a b : Bool) → b ≡ true → (a || b) ≡ true
or_right true b h = refl
or_right false b h = h

pub by_row : (k : Cell) (pairs : List Pair) (found : BTreeMap Cell (Unit {0})) (r : Bool) → r ≡ list_any (λ p. same_cell k p.key) pairs → r ≡ true
    → (list_any (same_cell k) (keys_of_rows pairs) || list_any (Found k) found.entries) ≡ true
by_row k pairs found r is here = ap (λ b. b || list_any (Found k) found.entries) (any-keys k pairs ∙ sym is ∙ here)

pub by_found : (k : Cell) (rows : List Cell) (found : BTreeMap Cell (Unit {0})) (r : Bool) → r ≡ is_some (lookup (is_at (ghosts.cmp k)) found.entries) → r ≡ true
    → (list_any (same_cell k) rows || list_any (Found k) found.entries) ≡ true
by_found k rows found r is here = or_right (list_any (same_cell k) rows) (list_any (Found k) found.entries) (sym (looked_up k found.entries) ∙ sym is ∙ here)

pub none_found : (k : Cell) (found : BTreeMap Cell (Unit {0})) (r : Bool) → r ≡ is_some (lookup (is_at (ghosts.cmp k)) found.entries) → r ≡ false
    → list_any (Found k) found.entries ≡ false
none_found k found r is none = sym (looked_up k found.entries) ∙ sym is ∙ none

-- ---- at the start

apart_is : (a b : Cell) → (b ≢ a) → same_cell a b ≡ false
apart_is a b apart = apart_by (same_cell a b) refl
  where
    apart_by : (s : Bool) → same_cell a b ≡ s → same_cell a b ≡ false
    apart_by true is = absurd (apart (sym (same_is a b is)))
    apart_by false is = is

none_same : (k : Cell) (ks : List Cell) → All (λ y. y ≢ k) ks → list_any (same_cell k) ks ≡ false
none_same k [] h = refl
none_same k (y ∷ ys) h = rw (apart_is k y (All-head (λ z. z ≢ k) y ys h)) (none_same k ys (All-tail (λ z. z ≢ k) y ys h))

pub different-distinct : (ks : List Cell) → AreDistinct ks → different ks ≡ length ks
different-distinct [] h = refl
different-distinct (k ∷ ks) h = rw (none_same k ks h.0) (ap (λ n. n + 1) (different-distinct ks h.1) ∙ count_one ks)
  where
    count_one : (xs : List Cell) → length xs + 1 ≡ length (k ∷ xs)
    count_one xs = omega arith

and_none : (b : Bool) → false ≡ (b && false)
and_none true = refl
and_none false = refl

pub none_counted : (rows : List Cell) (found : BTreeMap Cell (Unit {0})) → AreDistinct rows → found.entries ≡ [] → IsCounted rows found []
none_counted rows found distinct none = record {
  count = omega (arith, ap length none, ap different (append-nil rows) ∙ different-distinct rows distinct);
  has = λ k. ap (list_any (Found k)) none ∙ and_none (not (list_any (same_cell k) rows));
}

-- ---- more keys behind those that were counted

pub counted_none : (rows keys : List Cell) (found : BTreeMap Cell (Unit {0})) → IsCounted rows found keys → IsCounted rows found (keys ++ [])
counted_none rows keys found c = subst (λ ks. IsCounted rows found ks) (sym (append-nil keys)) c

pub counted_more : (rows keys done more all : List Cell) (found : BTreeMap Cell (Unit {0})) → all ≡ done ++ more → IsCounted rows found ((keys ++ done) ++ more) → IsCounted rows found (keys ++ all)
counted_more rows keys done more all found is c =
    subst (λ ks. IsCounted rows found ks) (append_assoc keys done more ∙ ap (λ ks. keys ++ ks) (sym is)) c

pub keys-more : (column : ℕ) (patches : List (List PatchCell)) (i : ℕ) → i < length patches
    → map (key_in column) (take (i + 1) patches) ≡ map (key_in column) (take i patches) ++ key_in column (get_or patches i []) ∷ []
keys-more column patches i lt = map_more (key_in column) patches i [] lt

pub batches-more : (column : ℕ) (batches : List Batch) (i : ℕ) (b : Batch) → slice_get batches i ≡ Some b
    → flat_map (keys_put column) (take (i + 1) batches) ≡ flat_map (keys_put column) (take i batches) ++ keys_put column b
batches-more column [] i b at = absurd (cc)
batches-more column (x ∷ xs) zero b at = let same : x ≡ b = cc in append-nil (keys_put column x) ∙ ap (keys_put column) same
batches-more column (x ∷ xs) (suc i) b at =
    rw add-one (ap (λ ks. keys_put column x ++ ks) (let step = batches-more column xs i b at in rw add-one at step)
    ∙ sym (append_assoc (keys_put column x) (flat_map (keys_put column) (take i xs)) (keys_put column b)))

-- ---- how many there may be

different_le : (ks : List Cell) → different ks ≤ length ks
different_le [] = omega arith
different_le (k ∷ ks) =
    elim (list_any (same_cell k) ks) as (λ b. (if b then different ks else different ks + 1) ≤ length (k ∷ ks)) [
      | true ↦ omega (arith, different_le ks)
      | false ↦ omega (arith, different_le ks)
    ]

keys_count : (column : ℕ) (b : Batch) → length (keys_put column b) ≡ rows_in b
keys_count column (batch.Update patches) = length-map patches (key_in column)
keys_count column (batch.Remove keys) = refl
keys_count column batch.Clear = refl
keys_count column (batch.Replace patches) = length-map patches (key_in column)

rows_one : (b : Batch) → sum_by rows_in (b ∷ []) ≡ rows_in b
rows_one b = let e : 0 + rows_in b ≡ rows_in b = omega arith in e

all_count : (column : ℕ) (bs : List Batch) → length (flat_map (keys_put column) bs) ≡ sum_by rows_in bs
all_count column [] = refl
all_count column (b ∷ bs) =
    let one = sum_by-append rows_in (b ∷ []) bs in
    omega (arith, length-append (keys_put column b) (flat_map (keys_put column) bs), keys_count column b, all_count column bs, one, rows_one b)

taken_le : (keeping : Keeping) (pairs : List Pair) (bs : List Batch) → rows_of_all keeping pairs bs ≤ length pairs + sum_by rows_in bs
taken_le (Indexed column) pairs bs =
    omega (
      arith,
      different_le (keys_of_rows pairs ++ flat_map (keys_put column) bs),
      length-append (keys_of_rows pairs) (flat_map (keys_put column) bs),
      length-map pairs (λ p. p.key),
      all_count column bs,
    )
taken_le (Limited slots) pairs bs = omega arith
taken_le Free pairs bs = omega arith

not_over : (n : ℕ) → n ≤ max_rows → over n ≡ None
not_over n le = rw (le-ltb max_rows n le) refl

-- where all rows in sum fit, so do the rows of all
pub room_for_all : (t : TableData) (kept : PortsData) (b : Batch) → length t.store.pairs + sum_by rows_in (waiting_on kept.live) + rows_in b ≤ max_rows
    → None ≡ over (room_taken t kept b)
room_for_all t kept b le =
    let sums : sum_by rows_in (waiting_on kept.live ++ b ∷ []) ≡ sum_by rows_in (waiting_on kept.live) + rows_in b =
    sum_by-append rows_in (waiting_on kept.live) (b ∷ []) ∙ ap (λ n. sum_by rows_in (waiting_on kept.live) + n) (rows_one b) in
    sym (not_over (room_taken t kept b) (omega (arith, taken_le t.schema.keeping t.store.pairs (waiting_on kept.live ++ b ∷ []), sums, le)))

over_by : (n : ℕ) → max_rows < n → over n ≡ Some n
over_by n lt = rw (lt-ltb max_rows n lt) refl

-- rows of a table without index or limit, where they are too many in sum
pub free_over : (t : TableData) (kept : PortsData) (b : Batch) (all : ℕ) → t.schema.keeping ≡ Free
    → all ≡ length t.store.pairs + sum_by rows_in (waiting_on kept.live) + rows_in b → max_rows < all
    → Some all ≡ over (room_taken t kept b)
free_over t kept b all free is lt =
    let sums : sum_by rows_in (waiting_on kept.live ++ b ∷ []) ≡ sum_by rows_in (waiting_on kept.live) + rows_in b =
    sum_by-append rows_in (waiting_on kept.live) (b ∷ []) ∙ ap (λ n. sum_by rows_in (waiting_on kept.live) + n) (rows_one b) in
    let count : length t.store.pairs + sum_by rows_in (waiting_on kept.live ++ b ∷ []) ≡ all = omega (arith, sums, is) in
    sym (ap (λ k. over (rows_of_all k t.store.pairs (waiting_on kept.live ++ b ∷ []))) free ∙ ap over count ∙ over_by all lt)

-- a table with a limit always has room
pub limited_fits : (t : TableData) (kept : PortsData) (b : Batch) (slots : ℕ) → t.schema.keeping ≡ Limited slots → None ≡ over (room_taken t kept b)
limited_fits t kept b slots is = sym (ap (λ k. over (rows_of_all k t.store.pairs (waiting_on kept.live ++ b ∷ []))) is)

-- what was counted is how many different keys there are
pub counted_over : (rows : List Cell) (found : BTreeMap Cell (Unit {0})) (keys : List Cell) (would : ℕ) → IsCounted rows found keys
    → would ≡ length rows + length found.entries → over would ≡ over (different (rows ++ keys))
counted_over rows found keys would c is = ap over (is ∙ c.count)

-- the keys of the ports' batches, and then those of one more
pub all_keys : (column : ℕ) (live : List Port) (i : ℕ) (b : Batch) → length live ≤ i
    → flat_map (keys_put column) (waiting_on (take i live)) ++ keys_put column b ≡ flat_map (keys_put column) (waiting_on live ++ b ∷ [])
all_keys column live i b le =
    ap (λ ps. flat_map (keys_put column) (waiting_on ps) ++ keys_put column b) (take_all i live le)
    ∙ sym (flat_map-append (keys_put column) (waiting_on live) (b ∷ []) ∙ ap (λ ks. flat_map (keys_put column) (waiting_on live) ++ ks) (append-nil (keys_put column b)))

-- the keys of one port more
pub port-keys-more : (column : ℕ) (live : List Port) (i : ℕ) (p : Port) → i < length live → p ≡ get_or live i p
    → flat_map (keys_put column) (waiting_on (take (i + 1) live)) ≡ flat_map (keys_put column) (waiting_on (take i live)) ++ flat_map (keys_put column) p.queue.waiting
port-keys-more column live i p lt is =
    let next : i + 1 ≡ suc i = omega arith in
    ap (λ k. flat_map (keys_put column) (waiting_on (take k live))) next
    ∙ ap (λ ps. flat_map (keys_put column) (waiting_on ps)) (take-suc live i p lt ∙ ap (λ q. take i live ++ q ∷ []) (sym is))
    ∙ ap (flat_map (keys_put column)) (flat_map-append (λ q. q.queue.waiting) (take i live) (p ∷ []) ∙ ap (λ bs. waiting_on (take i live) ++ bs) (append-nil p.queue.waiting))
    ∙ flat_map-append (keys_put column) (waiting_on (take i live)) p.queue.waiting
