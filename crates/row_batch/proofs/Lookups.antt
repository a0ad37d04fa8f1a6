-- What stands at a key, and what changes make of it.
use Rattle.std.proofs.Common.{◌≡◌, ◌≢◌, ℕ, pos, Bool, true, false, cond, List, [], ◌∷◌, ◌++◌, All, Option, Some, None, refl, sym, ap, ◌∙◌, subst, arith}
use Rattle.std.specs.Bool.{Decides}
use Rattle.std.specs.Ordering.{is_eq}
use Rattle.std.specs.Cmp.{IsEquivalence}
use Rattle.std.specs.List.{AllByRecursion, IsDistinct}
use Rattle.std.specs.List.Sorted.{IsPermutation}
use Rattle.std.specs.Map.{keys_of, update}
use Rattle.std.specs.Option.{option_or}
use Rattle.std.proofs.lemmas.Bool.{false_from_ne_true}
use Rattle.std.proofs.lemmas.List.Elements.{All-nil, All-cons, All-head, All-tail}
use Rattle.std.proofs.lemmas.List.Sorted.{IsPermutation-refl, IsPermutation-cons, IsPermutation-swap, IsPermutation-trans, IsPermutation-sym, All-permutation}
use Rattle.std.specs.Cmp.{Equal-is, eq_by_cmp_equiv}
use Rattle.plain_data.specs.Distinct.{AreDistinct}
use Rattle.cell_core.proofs.CellOrder as order
use Rattle.cell_core.specs.contracts.cell.CellOrd.TheImpl.Laws.{matches_eq-law}
use Rattle.cell_core.specs.contracts.cell.CellPartialEq.TheImpl as cell_eq
use Rattle.cell_core.specs.Cells.{cell_order, same_cell}
use Rattle.cell_core.specs.declared.cell.Cell.{Cell}
use Rattle.cell_core.specs.declared.cell.Cell.TheVariants.{Int}
use Rattle.row_batch.specs.declared.batch.PatchCell.{PatchCell}
use Rattle.row_batch.specs.declared.batch.Pair.{Pair}
use Rattle.row_batch.specs.declared.change.RowChange.{RowChange}
use Rattle.row_batch.specs.Batches.{pair_of, put_at, without}
use Rattle.row_batch.specs.Changes.{entries_of, row_at, changed}
use Rattle.row_batch.specs.Steps.{patched_or_new}
use Rattle.row_batch.specs.Tables.{keys_of_rows, IsNumberBelow}
use Rattle.row_batch.proofs.Keys.{below_is_other, distinct_without}

-- ---- cells that are one

pub same_law : IsEquivalence same_cell
same_law = eq_by_cmp_equiv order.total

pub same_decides : (a b : Cell) → Decides (same_cell a b) (a ≡ b)
same_decides a b = (λ h. order.exact a b ((Equal-is (cell_order a b)).0 h), λ e. subst (λ c. same_cell a c ≡ true) e (same_law.refl a))

-- two cells are one by the derived comparison exactly where they are by the order
pub derived_same : (a b : Cell) → cell_eq.ghosts.eq a b ≡ same_cell a b
derived_same a b = matches_eq-law a b ∙ ap is_eq (order.derived_order a b)

pub not_same : (a b : Cell) → b ≢ a → same_cell a b ≡ false
not_same a b ne = false_from_ne_true (same_cell a b) (λ h. ne (sym ((same_decides a b).0 h)))

-- ---- rows as a map's entries

pub keys_of-entries : (ps : List Pair) → keys_of (entries_of ps) ≡ keys_of_rows ps
keys_of-entries [] = refl
keys_of-entries (p ∷ ps) = ap (λ ks. p.key ∷ ks) (keys_of-entries ps)

apart : (x : Cell) (ys : List Cell) → All (λ y. y ≢ x) ys → AllByRecursion (λ y. same_cell x y ≡ false) ys
apart x [] h = tt
apart x (y ∷ ys) h = (not_same x y (All-head (λ y. y ≢ x) y ys h), apart x ys (All-tail (λ y. y ≢ x) y ys h))

pub distinct_by : (ks : List Cell) → AreDistinct ks → IsDistinct same_cell ks
unfolding IsDistinct
distinct_by [] h = tt
distinct_by (k ∷ ks) h = (apart k ks h.0, distinct_by ks h.1)

-- ---- what stands at a key

push_step : (p : Pair) (more : Option (List Cell)) (q : Cell) (rest : Option (List Cell)) (d : Bool) → same_cell q p.key ≡ d
    → cond (same_cell q p.key) (Some p.row) (option_or rest more) ≡ option_or (cond (same_cell q p.key) (Some p.row) rest) more
push_step p more q rest true is = rw is refl
push_step p more q rest false is = rw is refl

row_at-push : (ps : List Pair) (key : Cell) (row : List Cell) (q : Cell)
    → row_at (ps ++ pair_of key row ∷ []) q ≡ option_or (row_at ps q) (cond (same_cell q key) (Some row) None)
row_at-push [] key row q = refl
row_at-push (p ∷ ps) key row q =
    ap (λ rest. cond (same_cell q p.key) (Some p.row) rest) (row_at-push ps key row q)
    ∙ push_step p (cond (same_cell q key) (Some row) None) q (row_at ps q) (same_cell q p.key) refl

without_step : (drops : Cell → Bool) (p : Pair) (ps : List Pair) (q : Cell) (b d : Bool) → drops p.key ≡ b → same_cell q p.key ≡ d
    → row_at (without drops ps) q ≡ cond (drops q) None (row_at ps q)
    → row_at (without drops (p ∷ ps)) q ≡ cond (drops q) None (row_at (p ∷ ps) q)
without_step drops p ps q true true is here more =
    let dropped : drops q ≡ true = ap drops ((same_decides q p.key).0 here) ∙ is in
    let gone = rw dropped at more in
    rw (is, dropped) gone
without_step drops p ps q true false is here more = rw (is, here) more
without_step drops p ps q false true is here more =
    let stays : drops q ≡ false = ap drops ((same_decides q p.key).0 here) ∙ is in
    rw (is, here, stays) refl
without_step drops p ps q false false is here more = rw (is, here) more

nothing : (b : Bool) → (let none : Option (List Cell) = None in none ≡ cond b none none)
nothing true = refl
nothing false = refl

pub row_at-without : (drops : Cell → Bool) (ps : List Pair) (q : Cell) → row_at (without drops ps) q ≡ cond (drops q) None (row_at ps q)
row_at-without drops [] q = nothing (drops q)
row_at-without drops (p ∷ ps) q = without_step drops p ps q (drops p.key) (same_cell q p.key) refl refl (row_at-without drops ps q)

-- ---- a row patched or put

put_step : (width : ℕ) (key : Cell) (patch : List PatchCell) (p : Pair) (ps : List Pair) (q : Cell) (a d : Bool) → same_cell p.key key ≡ a → same_cell q p.key ≡ d
    → row_at (put_at width key patch ps) q ≡ update same_cell (row_at ps) key (Some (patched_or_new width patch (row_at ps key))) q
    → row_at (put_at width key patch (p ∷ ps)) q ≡ update same_cell (row_at (p ∷ ps)) key (Some (patched_or_new width patch (row_at (p ∷ ps) key))) q
put_step width key patch p ps q true true is here more =
    let mine : same_cell key p.key ≡ true = same_law.symm key p.key ∙ is in
    let asked : same_cell key q ≡ true = same_law.congr key p.key q mine ∙ same_law.symm p.key q ∙ here in
    rw (is, here, mine, asked) refl
put_step width key patch p ps q true false is here more =
    let mine : same_cell key p.key ≡ true = same_law.symm key p.key ∙ is in
    let asked : same_cell key q ≡ false = same_law.congr key p.key q mine ∙ same_law.symm p.key q ∙ here in
    rw (is, here, asked) refl
put_step width key patch p ps q false true is here more =
    let other : same_cell key p.key ≡ false = same_law.symm key p.key ∙ is in
    let asked : same_cell key q ≡ false = same_law.symm key q ∙ same_law.congr q p.key key here ∙ is in
    rw (is, here, asked) refl
put_step width key patch p ps q false false is here more =
    let other : same_cell key p.key ≡ false = same_law.symm key p.key ∙ is in
    rw (is, here, other) more

pub row_at-put : (width : ℕ) (key : Cell) (patch : List PatchCell) (ps : List Pair) (q : Cell)
    → row_at (put_at width key patch ps) q ≡ update same_cell (row_at ps) key (Some (patched_or_new width patch (row_at ps key))) q
row_at-put width key patch [] q = ap (λ b. cond b (Some (patched_or_new width patch None)) None) (same_law.symm q key)
row_at-put width key patch (p ∷ ps) q = put_step width key patch p ps q (same_cell p.key key) (same_cell q p.key) refl refl (row_at-put width key patch ps q)

-- ---- a change

or_none : (o : Option (List Cell)) → option_or o None ≡ o
or_none None = refl
or_none (Some row) = refl

pub append_none : (ps : List Pair) → ps ++ [] ≡ ps
append_none [] = refl
append_none (p ∷ ps) = ap (λ more. p ∷ more) (append_none ps)

put_apart : (key q : Cell) (row : List Cell) (rest : Option (List Cell)) (b : Bool) → same_cell key q ≡ b
    → option_or (cond (same_cell key q) None rest) (cond (same_cell q key) (Some row) None) ≡ cond (same_cell key q) (Some row) rest
put_apart key q row rest true is =
    let asked : same_cell q key ≡ true = same_law.symm q key ∙ is in
    rw (is, asked) refl
put_apart key q row rest false is =
    let asked : same_cell q key ≡ false = same_law.symm q key ∙ is in
    rw (is, asked) (or_none rest)

pub put_anew : (ps : List Pair) (key : Cell) (row : List Cell) (q : Cell)
    → row_at (without (same_cell key) ps ++ pair_of key row ∷ []) q ≡ update same_cell (row_at ps) key (Some row) q
put_anew ps key row q =
    row_at-push (without (same_cell key) ps) key row q
    ∙ ap (λ rest. option_or rest (cond (same_cell q key) (Some row) None)) (row_at-without (same_cell key) ps q)
    ∙ put_apart key q row (row_at ps q) (same_cell key q) refl

changed_by : (ps : List Pair) (key : Cell) (old new : Option (List Cell)) (q : Cell)
    → row_at (changed ps (record { key = key; old = old; new = new })) q ≡ update same_cell (row_at ps) key new q
changed_by ps key old None q = ap (λ rows. row_at rows q) (append_none (without (same_cell key) ps)) ∙ row_at-without (same_cell key) ps q
changed_by ps key old (Some row) q = put_anew ps key row q

pub row_at-changed : (ps : List Pair) (change : RowChange) (q : Cell) → row_at (changed ps change) q ≡ update same_cell (row_at ps) change.key change.new q
row_at-changed ps change q = changed_by ps change.key change.old change.new q

-- ---- a row at the end, under a key that is new

pub fresh : (n : ℕ) (ps : List Pair) → All (IsNumberBelow n) (keys_of_rows ps) → row_at ps (Int (pos n)) ≡ None
fresh n [] below = refl
fresh n (p ∷ ps) below =
    let key = Int (pos n) in
    let other : same_cell key p.key ≡ false = not_same key p.key (below_is_other n p.key (All-head (IsNumberBelow n) p.key (keys_of_rows ps) below)) in
    rw other (fresh n ps (All-tail (IsNumberBelow n) p.key (keys_of_rows ps) below))

append_step : (ps : List Pair) (key : Cell) (row : List Cell) (q : Cell) (b : Bool) → same_cell key q ≡ b → row_at ps key ≡ None
    → option_or (row_at ps q) (cond (same_cell q key) (Some row) None) ≡ update same_cell (row_at ps) key (Some row) q
append_step ps key row q true is absent =
    let asked : same_cell q key ≡ true = same_law.symm q key ∙ is in
    let none : row_at ps q ≡ None = ap (row_at ps) (sym ((same_decides key q).0 is)) ∙ absent in
    rw (is, asked, none) refl
append_step ps key row q false is absent =
    let asked : same_cell q key ≡ false = same_law.symm q key ∙ is in
    rw (is, asked) (or_none (row_at ps q))

pub row_at-append : (ps : List Pair) (key : Cell) (row : List Cell) (q : Cell) → row_at ps key ≡ None
    → row_at (ps ++ pair_of key row ∷ []) q ≡ update same_cell (row_at ps) key (Some row) q
row_at-append ps key row q absent = row_at-push ps key row q ∙ append_step ps key row q (same_cell key q) refl absent

-- ---- rows that are the same at each key

abbrev pub SameRows : List Pair → List Pair → Type 0
SameRows a b = (q : Cell) → row_at a q ≡ row_at b q

absent_step : (p : Pair) (ps : List Pair) (key : Cell) (b : Bool) → same_cell key p.key ≡ b → row_at (p ∷ ps) key ≡ None
    → (row_at ps key ≡ None → without (same_cell key) ps ≡ ps) → without (same_cell key) (p ∷ ps) ≡ p ∷ ps
absent_step p ps key true is none more = absurd (let wrong = rw is at none in cc)
absent_step p ps key false is none more = let rest = rw is at none in rw is (ap (λ xs. p ∷ xs) (more rest))

-- where nothing stands at the key, nothing is dropped
pub absent_keeps : (ps : List Pair) (key : Cell) → row_at ps key ≡ None → without (same_cell key) ps ≡ ps
absent_keeps [] key none = refl
absent_keeps (p ∷ ps) key none = absent_step p ps key (same_cell key p.key) refl none (absent_keeps ps key)

pub absent_at : (ps : List Pair) (key : Cell) → All (λ k. k ≢ key) (keys_of_rows ps) → row_at ps key ≡ None
absent_at [] key other = refl
absent_at (p ∷ ps) key other =
    let not_here : same_cell key p.key ≡ false = not_same key p.key (All-head (λ k. k ≢ key) p.key (keys_of_rows ps) other) in
    rw not_here (absent_at ps key (All-tail (λ k. k ≢ key) p.key (keys_of_rows ps) other))

moved_back : (p q : Pair) (ps rest : List Pair) → IsPermutation ps (q ∷ rest) → IsPermutation (p ∷ ps) (q ∷ p ∷ rest)
moved_back p q ps rest h =
    IsPermutation-trans (p ∷ ps) (p ∷ q ∷ rest) (q ∷ p ∷ rest) (IsPermutation-cons p ps (q ∷ rest) h)
    (IsPermutation-swap (p ∷ q ∷ rest) (q ∷ p ∷ rest) 0 1 (omega arith) (omega arith) refl)

pulled_step : (p : Pair) (ps : List Pair) (key : Cell) (row : List Cell) (b : Bool) → same_cell key p.key ≡ b → All (λ k. k ≢ p.key) (keys_of_rows ps)
    → row_at (p ∷ ps) key ≡ Some row → (row_at ps key ≡ Some row → IsPermutation ps (pair_of key row ∷ without (same_cell key) ps))
    → IsPermutation (p ∷ ps) (pair_of key row ∷ without (same_cell key) (p ∷ ps))
pulled_step p ps key row true is other found more =
    let mine = rw is at found in
    let value : p.row ≡ row = cc in
    let here : key ≡ p.key = (same_decides key p.key).0 is in
    let stay : without (same_cell key) ps ≡ ps = absent_keeps ps key (ap (row_at ps) here ∙ absent_at ps p.key other) in
    let pair : pair_of key row ≡ p = ap (λ k. pair_of k row) here ∙ ap (pair_of p.key) (sym value) in
    rw (is, stay, pair) (IsPermutation-refl (p ∷ ps))
pulled_step p ps key row false is other found more =
    let rest = rw is at found in
    rw is (moved_back p (pair_of key row) ps (without (same_cell key) ps) (more rest))

-- the pair of a key, before the others
pub pulled : (ps : List Pair) (key : Cell) (row : List Cell) → AreDistinct (keys_of_rows ps) → row_at ps key ≡ Some row
    → IsPermutation ps (pair_of key row ∷ without (same_cell key) ps)
pulled [] key row distinct found = absurd (cc)
pulled (p ∷ ps) key row distinct found = pulled_step p ps key row (same_cell key p.key) refl distinct.0 found (pulled ps key row distinct.1)

rest_step : (x : Pair) (xs : List Pair) (q : Cell) (b : Bool) → same_cell x.key q ≡ b → row_at xs x.key ≡ None
    → row_at xs q ≡ cond (same_cell x.key q) None (cond (same_cell q x.key) (Some x.row) (row_at xs q))
rest_step x xs q true is none = rw is (ap (row_at xs) (sym ((same_decides x.key q).0 is)) ∙ none)
rest_step x xs q false is none =
    let asked : same_cell q x.key ≡ false = same_law.symm q x.key ∙ is in
    rw (is, asked) refl

pub permuted : (a b : List Pair) → AreDistinct (keys_of_rows a) → AreDistinct (keys_of_rows b) → SameRows a b → IsPermutation a b
permuted [] [] da db same = IsPermutation-refl []
permuted [] (y ∷ ys) da db same =
    absurd (let mine : same_cell y.key y.key ≡ true = same_law.refl y.key in let wrong = rw mine at (same y.key) in cc)
permuted (x ∷ xs) b da db same =
    let mine : same_cell x.key x.key ≡ true = same_law.refl x.key in
    let found : row_at b x.key ≡ Some x.row = sym (same x.key) ∙ ap (λ t. cond t (Some x.row) (row_at xs x.key)) mine in
    let rest = without (same_cell x.key) b in
    let others = permuted xs rest da.1 (distinct_without (same_cell x.key) b db)
    (λ q. rest_step x xs q (same_cell x.key q) refl (absent_at xs x.key da.0) ∙ ap (λ r. cond (same_cell x.key q) None r) (same q) ∙ sym (row_at-without (same_cell x.key) b q)) in
    IsPermutation-trans (x ∷ xs) (x ∷ rest) b (IsPermutation-cons x xs rest others) (IsPermutation-sym b (x ∷ rest) (pulled b x.key x.row db found))

-- ---- and rows in another order

abbrev StandsIn : List Pair → Pair → Type 0
StandsIn ps p = row_at ps p.key ≡ Some p.row

stays_behind : (p : Pair) (ps : List Pair) (all : List Pair) → All (λ k. k ≢ p.key) (keys_of_rows all) → All (StandsIn ps) all → All (StandsIn (p ∷ ps)) all
stays_behind p ps [] other h = All-nil (StandsIn (p ∷ ps))
stays_behind p ps (x ∷ xs) other h =
    let apart : same_cell x.key p.key ≡ false = not_same x.key p.key (λ e. All-head (λ k. k ≢ p.key) x.key (keys_of_rows xs) other (sym e)) in
    let here : StandsIn ps x = All-head (StandsIn ps) x xs h in
    All-cons (StandsIn (p ∷ ps)) x xs (rw apart here) (stays_behind p ps xs (All-tail (λ k. k ≢ p.key) x.key (keys_of_rows xs) other) (All-tail (StandsIn ps) x xs h))

all_stand : (ps : List Pair) → AreDistinct (keys_of_rows ps) → All (StandsIn ps) ps
all_stand [] distinct = All-nil (StandsIn [])
all_stand (p ∷ ps) distinct =
    let mine : same_cell p.key p.key ≡ true = same_law.refl p.key in
    All-cons (StandsIn (p ∷ ps)) p ps (rw mine refl) (stays_behind p ps ps distinct.0 (all_stand ps distinct.1))

found_step : (ps : List Pair) (p : Pair) (rest : Option (List Cell)) (q : Cell) (row : List Cell) (d : Bool) → same_cell q p.key ≡ d → StandsIn ps p
    → (rest ≡ Some row → row_at ps q ≡ Some row) → cond (same_cell q p.key) (Some p.row) rest ≡ Some row → row_at ps q ≡ Some row
found_step ps p rest q row true is stands more found =
    let here = rw is at found in
    ap (row_at ps) ((same_decides q p.key).0 is) ∙ stands ∙ here
found_step ps p rest q row false is stands more found = let later = rw is at found in more later

found_in : (ps all : List Pair) → All (StandsIn ps) all → (q : Cell) (row : List Cell) → row_at all q ≡ Some row → row_at ps q ≡ Some row
found_in ps [] h q row found = absurd (cc)
found_in ps (p ∷ all) h q row found =
    found_step ps p (row_at all q) q row (same_cell q p.key) refl (All-head (StandsIn ps) p all h)
    (found_in ps all (All-tail (StandsIn ps) p all h) q row) found

one_of : (x y : Option (List Cell)) → ((r : List Cell) → x ≡ Some r → y ≡ Some r) → ((r : List Cell) → y ≡ Some r → x ≡ Some r) → x ≡ y
one_of None None f g = refl
one_of None (Some r) f g = g r refl
one_of (Some r) y f g = sym (f r refl)

pub same_from_permutation : (a b : List Pair) → AreDistinct (keys_of_rows a) → AreDistinct (keys_of_rows b) → IsPermutation a b → SameRows a b
same_from_permutation a b da db moved q =
    let ab = All-permutation (StandsIn b) b a (IsPermutation-sym a b moved) (all_stand b db) in
    let ba = All-permutation (StandsIn a) a b moved (all_stand a da) in
    one_of (row_at a q) (row_at b q) (found_in b a ab q) (found_in a b ba q)
