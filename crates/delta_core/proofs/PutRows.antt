-- The puts of a delta: a map from positions into which the rows go key by key, and the rows that they put.
use Rattle.std.proofs.Common.{◌≡◌, ◌≢◌, ℕ, ◌+◌, ◌<◌, Bool, true, false, ◌||◌, cond, List, [], ◌∷◌, ◌++◌, map, filter, Option, Some, None, is_some, option_map, Less, Equal, Greater, refl, sym, ap, ◌∙◌, subst, arith}
use Rattle.std.proofs.lemmas.List.Elements.{All-nil, All-head, All-tail}
use Rattle.std.proofs.lemmas.Simd.{map-map}
use Rattle.std.specs.BTreeMap.{insert_entry}
use Rattle.std.specs.Cmp.{nat_cmp_is}
use Rattle.std.specs.List.{All, list_any}
use Rattle.std.specs.Map.{values_of}
use Rattle.std.specs.Ordering.{nat_cmp, match_ordering}
use Rattle.plain_data.specs.Distinct.{AreDistinct}
use Rattle.view_types.proofs.KeyOrder.{same_key_is_equal}
use Rattle.view_types.specs.Keys.{same_key}
use Rattle.view_types.specs.Rows.{AreShownRows, IsMarked}
use Rattle.view_types.specs.declared.key.ViewKey.{ViewKey}
use Rattle.view_types.specs.declared.shown.ShownRow.{ShownRow}
use Rattle.delta_core.specs.Deltas.{puts_from}
use Rattle.delta_core.specs.KeySets.{is_among}
use Rattle.delta_core.specs.Rows.{position_of, row_at}
use Rattle.delta_core.specs.declared.delta.Put.{Put}
use Rattle.delta_core.proofs.DistinctRows.{AreShownRows-filter}
use Rattle.delta_core.proofs.ShownKeys.{position_has}

abbrev pub Places : Type 0
Places = List (ℕ × ShownRow)

abbrev pub placed : List ViewKey → ℕ → List ShownRow → Places
placed ks n rows = map (λ (p : Put). (p.position, p.row)) (puts_from ks n rows)

-- ---- among one key more

or_false : (b : Bool) → (b || false) ≡ b
or_false true = refl
or_false false = refl

or_true : (b : Bool) → (b || true) ≡ true
or_true true = refl
or_true false = refl

among_push : (ks : List ViewKey) (k q : ViewKey) → is_among (ks ++ k ∷ []) q ≡ (is_among ks q || same_key q k)
among_push [] k q = or_false (same_key q k)
among_push (x ∷ ks) k q =
    elim (same_key q x) as (λ b. (b || list_any (same_key q) (ks ++ k ∷ [])) ≡ ((b || list_any (same_key q) ks) || same_key q k)) [
      | true ↦ refl
      | false ↦ among_push ks k q
    ]

among_other : (ks : List ViewKey) (k q : ViewKey) → same_key q k ≡ false → is_among (ks ++ k ∷ []) q ≡ is_among ks q
among_other ks k q other = among_push ks k q ∙ ap (λ b. is_among ks q || b) other ∙ or_false (is_among ks q)

among_key : (ks : List ViewKey) (k q : ViewKey) → same_key q k ≡ true → is_among (ks ++ k ∷ []) q ≡ true
among_key ks k q same = among_push ks k q ∙ ap (λ b. is_among ks q || b) same ∙ or_true (is_among ks q)

-- ---- a key that no row has

map_none : {X Y : Type 0} (f : X → Y) (o : Option X) → option_map f o ≡ None → o ≡ None
map_none f None h = refl
map_none f (Some x) h = absurd (let wrong : Some (f x) ≡ None = h in cc)

map_some : {X Y : Type 0} (f : X → Y) (o : Option X) (y : Y) → option_map f o ≡ Some y → (x : X) × (o ≡ Some x) × (f x ≡ y)
map_some f None y h = absurd (let wrong : None ≡ Some y = h in cc)
map_some f (Some x) y h = (x, refl, (let same : Some (f x) ≡ Some y = h in cc))

none_step : (k : ViewKey) (r : ShownRow) (rows : List ShownRow) (b : Bool) → same_key r.key k ≡ b → position_of k (r ∷ rows) ≡ None → (same_key r.key k ≡ false) × (position_of k rows ≡ None)
none_step k r rows true is none = let found : Some 0 ≡ None = rw is at none in absurd (cc)
none_step k r rows false is none = (is, map_none (λ i. i + 1) (position_of k rows) (rw is at none))

none_parts : (k : ViewKey) (r : ShownRow) (rows : List ShownRow) → position_of k (r ∷ rows) ≡ None → (same_key r.key k ≡ false) × (position_of k rows ≡ None)
none_parts k r rows none = none_step k r rows (same_key r.key k) refl none

puts_absent : (ks : List ViewKey) (k : ViewKey) (n : ℕ) (rows : List ShownRow) → position_of k rows ≡ None → puts_from (ks ++ k ∷ []) n rows ≡ puts_from ks n rows
puts_absent ks k n [] none = refl
puts_absent ks k n (r ∷ rows) none =
    let parts = none_parts k r rows none in
    let rest = puts_absent ks k (n + 1) rows parts.1 in
    let among = among_other ks k r.key parts.0 in
    λ i. cond (among i) (record { position = n; row = r } ∷ rest i) (rest i)

pub placed_absent : (ks : List ViewKey) (k : ViewKey) (n : ℕ) (rows : List ShownRow) → position_of k rows ≡ None → placed (ks ++ k ∷ []) n rows ≡ placed ks n rows
placed_absent ks k n rows none = ap (λ ps. map (λ (p : Put). (p.position, p.row)) ps) (puts_absent ks k n rows none)

none_from_step : (k : ViewKey) (r : ShownRow) (rows : List ShownRow) (b : Bool) → same_key r.key k ≡ b → r.key ≢ k → position_of k rows ≡ None → position_of k (r ∷ rows) ≡ None
none_from_step k r rows true is other rest = absurd (other (same_key_is_equal r.key k is))
none_from_step k r rows false is other rest = rw is (ap (λ o. option_map (λ i. i + 1) o) rest)

none_from_apart : (k : ViewKey) (rows : List ShownRow) → All (λ y. y ≢ k) (map (λ r. r.key) rows) → position_of k rows ≡ None
none_from_apart k [] apart = refl
none_from_apart k (r ∷ rows) apart =
    let other = All-head (λ y. y ≢ k) r.key (map (λ r. r.key) rows) apart in
    let rest = none_from_apart k rows (All-tail (λ y. y ≢ k) r.key (map (λ r. r.key) rows) apart) in
    none_from_step k r rows (same_key r.key k) refl other rest

-- ---- one row more under its position

goes_first : (ks : List ViewKey) (m n : ℕ) (rows : List ShownRow) (r : ShownRow) → n < m → insert_entry nat_cmp (placed ks m rows) n r ≡ (n, r) ∷ placed ks m rows
goes_first ks m n [] r below = refl
goes_first ks m n (x ∷ rows) r below =
    let less : nat_cmp n m ≡ Less = sym (nat_cmp_is n m Less below) in
    let rest = placed ks (m + 1) rows in
    elim (is_among ks x.key) as (λ b. insert_entry nat_cmp (map (λ (p : Put). (p.position, p.row)) (cond b (record { position = m; row = x } ∷ puts_from ks (m + 1) rows) (puts_from ks (m + 1) rows))) n r ≡ (n, r) ∷ map (λ (p : Put). (p.position, p.row)) (cond b (record { position = m; row = x } ∷ puts_from ks (m + 1) rows) (puts_from ks (m + 1) rows))) [
      | true ↦ ap (λ o. match_ordering o ((n, r) ∷ (m, x) ∷ rest) ((m, r) ∷ rest) ((m, x) ∷ insert_entry nat_cmp rest n r)) less
      | false ↦ goes_first ks (m + 1) n rows r (omega arith)
    ]

at_head : (ks : List ViewKey) (n : ℕ) (x : ShownRow) (rows : List ShownRow) (c : Bool) → is_among ks x.key ≡ c → insert_entry nat_cmp (placed ks n (x ∷ rows)) n x ≡ (n, x) ∷ placed ks (n + 1) rows
at_head ks n x rows true is =
    let equal : nat_cmp n n ≡ Equal = sym (nat_cmp_is n n Equal refl) in
    let rest = placed ks (n + 1) rows in
    rw is (ap (λ o. match_ordering o ((n, x) ∷ (n, x) ∷ rest) ((n, x) ∷ rest) ((n, x) ∷ insert_entry nat_cmp rest n x)) equal)
at_head ks n x rows false is = rw is (goes_first ks (n + 1) n rows x (omega arith))

past_head : (ks : List ViewKey) (n at_ : ℕ) (x r : ShownRow) (rows : List ShownRow) (more : Places) (c : Bool) → is_among ks x.key ≡ c → n < at_ → insert_entry nat_cmp (placed ks (n + 1) rows) at_ r ≡ more
    → insert_entry nat_cmp (placed ks n (x ∷ rows)) at_ r ≡ cond c ((n, x) ∷ more) more
past_head ks n at_ x r rows more true is above put =
    let greater : nat_cmp at_ n ≡ Greater = sym (nat_cmp_is at_ n Greater above) in
    let rest = placed ks (n + 1) rows in
    rw is (ap (λ o. match_ordering o ((at_, r) ∷ (n, x) ∷ rest) ((n, r) ∷ rest) ((n, x) ∷ insert_entry nat_cmp rest at_ r)) greater ∙ ap (λ z. (n, x) ∷ z) put)
past_head ks n at_ x r rows more false is above put = rw is put

abbrev pub places : List Put → Places
places puts = map (λ (p : Put). (p.position, p.row)) puts

cond_places : (b : Bool) (n : ℕ) (x : ShownRow) (puts : List Put) → places (cond b (record { position = n; row = x } ∷ puts) puts) ≡ cond b ((n, x) ∷ places puts) (places puts)
cond_places true n x puts = refl
cond_places false n x puts = refl

placed_step : (ks : List ViewKey) (k : ViewKey) (n : ℕ) (x : ShownRow) (rows : List ShownRow) (i : ℕ) (r : ShownRow) (b : Bool) → same_key x.key k ≡ b → AreDistinct (map (λ r. r.key) (x ∷ rows))
    → position_of k (x ∷ rows) ≡ Some i → row_at k (x ∷ rows) ≡ Some r
    → ((j : ℕ) → position_of k rows ≡ Some j → row_at k rows ≡ Some r → insert_entry nat_cmp (placed ks (n + 1) rows) ((n + 1) + j) r ≡ placed (ks ++ k ∷ []) (n + 1) rows)
    → insert_entry nat_cmp (placed ks n (x ∷ rows)) (n + i) r ≡ placed (ks ++ k ∷ []) n (x ∷ rows)
placed_step ks k n x rows i r true is distinct at_ row later =
    let found : Some 0 ≡ Some i = rw is at at_ in
    let first : Some x ≡ Some r = rw is at row in
    let zero_is : 0 ≡ i = cc in
    let row_is : x ≡ r = cc in
    let place : n + i ≡ n = omega arith in
    let key : x.key ≡ k = same_key_is_equal x.key k is in
    let none : position_of k rows ≡ None = none_from_apart k rows (subst (λ z. All (λ y. y ≢ z) (map (λ r. r.key) rows)) key distinct.0) in
    let among : is_among (ks ++ k ∷ []) x.key ≡ true = among_key ks k x.key is in
    ap (λ m. insert_entry nat_cmp (placed ks n (x ∷ rows)) m r) place
    ∙ ap (λ z. insert_entry nat_cmp (placed ks n (x ∷ rows)) n z) (sym row_is)
    ∙ at_head ks n x rows (is_among ks x.key) refl
    ∙ ap (λ z. (n, x) ∷ z) (sym (placed_absent ks k (n + 1) rows none))
    ∙ sym (cond_places (is_among (ks ++ k ∷ []) x.key) n x (puts_from (ks ++ k ∷ []) (n + 1) rows)
    ∙ ap (λ b. cond b ((n, x) ∷ placed (ks ++ k ∷ []) (n + 1) rows) (placed (ks ++ k ∷ []) (n + 1) rows)) among)
placed_step ks k n x rows i r false is distinct at_ row later =
    let found : option_map (λ i. i + 1) (position_of k rows) ≡ Some i = rw is at at_ in
    let row_is : row_at k rows ≡ Some r = rw is at row in
    let parts = map_some (λ i. i + 1) (position_of k rows) i found in
    let one_more : parts.0 + 1 ≡ i = parts.2 in
    let place : (n + 1) + parts.0 ≡ n + i = omega arith in
    let put = subst (λ m. insert_entry nat_cmp (placed ks (n + 1) rows) m r ≡ placed (ks ++ k ∷ []) (n + 1) rows) place (later parts.0 parts.1 row_is) in
    past_head ks n (n + i) x r rows (placed (ks ++ k ∷ []) (n + 1) rows) (is_among ks x.key) refl (omega arith) put
    ∙ ap (λ b. cond b ((n, x) ∷ placed (ks ++ k ∷ []) (n + 1) rows) (placed (ks ++ k ∷ []) (n + 1) rows)) (sym (among_other ks k x.key is))
    ∙ sym (cond_places (is_among (ks ++ k ∷ []) x.key) n x (puts_from (ks ++ k ∷ []) (n + 1) rows))

pub placed_more : (ks : List ViewKey) (k : ViewKey) (n : ℕ) (rows : List ShownRow) (i : ℕ) (r : ShownRow) → AreDistinct (map (λ r. r.key) rows) → position_of k rows ≡ Some i → row_at k rows ≡ Some r
    → insert_entry nat_cmp (placed ks n rows) (n + i) r ≡ placed (ks ++ k ∷ []) n rows
placed_more ks k n [] i r distinct at_ row = absurd (let wrong : None ≡ Some i = at_ in cc)
placed_more ks k n (x ∷ rows) i r distinct at_ row =
    placed_step ks k n x rows i r (same_key x.key k) refl distinct at_ row
    (λ j here. placed_more ks k (n + 1) rows j r distinct.1 here)

-- ---- the rows of the puts

puts_rows : (ks : List ViewKey) (n : ℕ) (rows : List ShownRow) → map (λ (p : Put). p.row) (puts_from ks n rows) ≡ filter (λ r. is_among ks r.key) rows
puts_rows ks n [] = refl
puts_rows ks n (r ∷ rows) =
    elim (is_among ks r.key) as (λ b. map (λ (p : Put). p.row) (cond b (record { position = n; row = r } ∷ puts_from ks (n + 1) rows) (puts_from ks (n + 1) rows)) ≡ cond b (r ∷ filter (λ r. is_among ks r.key) rows) (filter (λ r. is_among ks r.key) rows)) [
      | true ↦ ap (λ z. r ∷ z) (puts_rows ks (n + 1) rows)
      | false ↦ puts_rows ks (n + 1) rows
    ]

pub placed_shown : (ks : List ViewKey) (rows : List ShownRow) → AreShownRows rows → AreShownRows (values_of (placed ks 0 rows))
placed_shown ks rows h =
    let same : filter (λ r. is_among ks r.key) rows ≡ values_of (placed ks 0 rows) =
    sym (puts_rows ks 0 rows) ∙ sym (map-map (λ (e : ℕ × ShownRow). e.1) (λ (p : Put). (p.position, p.row)) (puts_from ks 0 rows)) in
    subst (λ z. AreShownRows z) same (AreShownRows-filter (λ r. is_among ks r.key) rows h)

-- ---- the entries as puts

abbrev pub put_of : ℕ × ShownRow → Put
put_of e = record { position = e.0; row = e.1 }

pub rows_of_puts : (es : Places) → map (λ (p : Put). p.row) (map (λ (e : ℕ × ShownRow). put_of e) es) ≡ values_of es
rows_of_puts es = map-map (λ (p : Put). p.row) put_of es

pub puts_of_places : (ps : List Put) → map (λ (e : ℕ × ShownRow). put_of e) (map (λ (p : Put). (p.position, p.row)) ps) ≡ ps
puts_of_places [] = refl
puts_of_places (p ∷ ps) = ap (λ z. p ∷ z) (puts_of_places ps)

-- ---- a row that is asked for by its key

pub placed_under : (ks : List ViewKey) (k : ViewKey) (rows : List ShownRow) (i : ℕ) (r : ShownRow) → AreShownRows rows → position_of k rows ≡ Some i → row_at k rows ≡ Some r
    → insert_entry nat_cmp (placed ks 0 rows) i r ≡ placed (ks ++ k ∷ []) 0 rows
placed_under ks k rows i r h at_ row =
    let place : i ≡ 0 + i = omega arith in
    ap (λ m. insert_entry nat_cmp (placed ks 0 rows) m r) place ∙ placed_more ks k 0 rows i r h.distinct at_ row

-- where a key has a position it has a row
pub row_or_none : (k : ViewKey) (rows : List ShownRow) (i : ℕ) → position_of k rows ≡ Some i → row_at k rows ≡ None → ⊥
row_or_none k rows i at_ none =
    let wrong : true ≡ false = sym (ap is_some at_) ∙ position_has k rows ∙ ap is_some none in
    cc

-- ---- where no key was asked for yet

nothing_from : (n : ℕ) (rows : List ShownRow) → puts_from [] n rows ≡ []
nothing_from n [] = refl
nothing_from n (r ∷ rows) = nothing_from (n + 1) rows

pub placed_none : (rows : List ShownRow) → placed [] 0 rows ≡ []
placed_none rows = ap places (nothing_from 0 rows)

pub none_shown : (es : Places) → es ≡ [] → AreShownRows (values_of es)
none_shown es empty = subst (λ z. AreShownRows (values_of z)) (sym empty) (record { distinct = tt; marked = All-nil (λ (r : ShownRow). IsMarked r.key r.mark) })
