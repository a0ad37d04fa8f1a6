-- What is read, before what the rest reads as.
use Rattle.std.proofs.Common.{◌≡◌, ℕ, ◌+◌, ltb, true, false, List, [], ◌∷◌, ◌++◌, Result, Ok, Err, refl, sym, ap, subst, ◌∙◌, append_assoc, append-nil, suc, ◌<◌, ◌≤◌, length, drop, get_or, map, drop-cons, add-one, arith}
use Rattle.std.proofs.lemmas.Bool.Decides.{nat_tests}
use Rattle.std.proofs.lemmas.List.{drop_all}
use Rattle.row_batch.specs.Reading.{RefusesRows}
use Rattle.row_batch.specs.declared.refused.BatchRefused.{BatchRefused}
use Rattle.row_batch.specs.declared.refused.RowsRefused.{RowsRefused}
use Rattle.row_batch.specs.declared.refused.RowsRefused.TheVariants.{Bad, Memory}
use Rattle.cell_core.specs.declared.cell.Cell.{Cell}
use Rattle.cell_core.specs.declared.schema.Keeping.{Keeping}
use Rattle.row_batch.specs.declared.batch.PatchCell.{PatchCell}
use Rattle.row_batch.specs.declared.refused.RowCause.{RowCause}
use Rattle.row_cells.specs.Rows.{in_front, read_each, answer_of, placed, placed_key, read_batch, too_many}

abbrev pub with_front : {X E : Type 0} → List X → Result (List X) E → Result (List X) E
with_front found (Err why) = Err why
with_front found (Ok rest) = Ok (found ++ rest)

-- nothing was read yet
pub with_front-nil : {X E : Type 0} (rest : Result (List X) E) → with_front [] rest ≡ rest
with_front-nil (Err why) = refl
with_front-nil (Ok rest) = refl

-- one more was read
pub with_front-push : {X E : Type 0} (found : List X) (x : X) (rest : Result (List X) E)
    → with_front (found ++ x ∷ []) rest ≡ with_front found (in_front (Ok x) rest)
with_front-push found x (Err why) = refl
with_front-push found x (Ok rest) = ap Ok (append_assoc found (x ∷ []) rest)

-- the values that are left, with the first of them in front
left : {A : Type 0} (values : List A) (i : ℕ) (a : A) → i < length values → a ≡ get_or values i a → drop i values ≡ a ∷ drop (i + 1) values
left values i a h is = rw add-one (drop-cons values i a h ∙ ap (λ x. x ∷ drop (suc i) values) (sym is))

-- the next was read
pub front-push : {A X E : Type 0} (read : ℕ → A → Result X E) (values : List A) (i : ℕ) (a : A) (found : List X) (x : X) (whole : Result (List X) E)
    → i < length values → a ≡ get_or values i a → read i a ≡ Ok x
    → with_front found (read_each read i (drop i values)) ≡ whole → with_front (found ++ x ∷ []) (read_each read (i + 1) (drop (i + 1) values)) ≡ whole
front-push read values i a found x whole h is good so =
    with_front-push found x (read_each read (i + 1) (drop (i + 1) values))
    ∙ ap (λ r. with_front found (in_front r (read_each read (i + 1) (drop (i + 1) values)))) (sym good)
    ∙ ap (λ vs. with_front found (read_each read i vs)) (sym (left values i a h is)) ∙ so

-- the next is refused, and so is the whole
pub refused_by : {X : Type 0} (found : List X) (r : Result X BatchRefused) (rest whole : Result (List X) BatchRefused) (e : RowsRefused)
    → with_front found (in_front r rest) ≡ whole → RefusesRows r e → RefusesRows whole e
refused_by found r rest whole (Bad why) h is = sym h ∙ rw is refl
refused_by found r rest whole Memory h is = tt

pub front-refused : {A X : Type 0} (read : ℕ → A → Result X BatchRefused) (values : List A) (i : ℕ) (a : A) (found : List X) (whole : Result (List X) BatchRefused) (e : RowsRefused)
    → i < length values → a ≡ get_or values i a → RefusesRows (read i a) e
    → with_front found (read_each read i (drop i values)) ≡ whole → RefusesRows whole e
front-refused read values i a found whole e h is bad so =
    refused_by found (read i a) (read_each read (i + 1) (drop (i + 1) values)) whole e (ap (λ vs. with_front found (read_each read i vs)) (sym (left values i a h is)) ∙ so) bad

-- nothing is left
pub front-end : {A X E : Type 0} (read : ℕ → A → Result X E) (values : List A) (i : ℕ) (found : List X) (whole : Result (List X) E)
    → length values ≤ i → with_front found (read_each read i (drop i values)) ≡ whole → whole ≡ Ok found
front-end read values i found whole h so =
    sym so ∙ ap (λ vs. with_front found (read_each read i vs)) (drop_all i values h) ∙ ap Ok (append-nil found)

-- values that are first seen as others
pub read_each-map : {A B X E : Type 0} (read : ℕ → B → Result X E) (see : A → B) (i : ℕ) (values : List A)
    → read_each (λ i a. read i (see a)) i values ≡ read_each read i (map see values)
read_each-map read see i [] = refl
read_each-map read see i (a ∷ values) = ap (in_front (read i (see a))) (read_each-map read see (i + 1) values)

-- ---- answers

pub answer-ok : {X : Type 0} (r : Result X BatchRefused) (x : X) → answer_of r ≡ Ok x → r ≡ Ok x
answer-ok (Ok y) x h = cc
answer-ok (Err why) x h = cc

pub answer-err : {X : Type 0} (r : Result X BatchRefused) (e : RowsRefused) → answer_of r ≡ Err e → RefusesRows r e
answer-err (Ok y) e h = cc
answer-err (Err why) (Bad other) h = cc
answer-err (Err why) Memory h = tt

-- what a column's cell, or a key, is placed as, where the code sees equal parts
pub placed-ok : (keeping k : Keeping) (row i : ℕ) (read r : Result PatchCell RowCause) (p : PatchCell) → k ≡ keeping → r ≡ read
    → Ok p ≡ answer_of (placed k row i r) → placed keeping row i read ≡ Ok p
placed-ok keeping k row i read r p e d h = ap (λ x. placed x row i read) (sym e) ∙ ap (placed k row i) (sym d) ∙ answer-ok (placed k row i r) p (sym h)

pub placed-err : (keeping k : Keeping) (row i : ℕ) (read r : Result PatchCell RowCause) (e : RowsRefused) → k ≡ keeping → r ≡ read
    → Err e ≡ answer_of (placed k row i r) → RefusesRows (placed keeping row i read) e
placed-err keeping k row i read r e same d h =
    subst (λ x. RefusesRows x e) (ap (placed k row i) d ∙ ap (λ x. placed x row i read) same) (answer-err (placed k row i r) e (sym h))

pub placed_key-ok : (row i : ℕ) (read r : Result Cell RowCause) (c : Cell) → r ≡ read → Ok c ≡ answer_of (placed_key row i r) → placed_key row i read ≡ Ok c
placed_key-ok row i read r c d h = ap (placed_key row i) (sym d) ∙ answer-ok (placed_key row i r) c (sym h)

pub placed_key-err : (row i : ℕ) (read r : Result Cell RowCause) (e : RowsRefused) → r ≡ read → Err e ≡ answer_of (placed_key row i r) → RefusesRows (placed_key row i read) e
placed_key-err row i read r e d h = subst (λ x. RefusesRows x e) (ap (placed_key row i) d) (answer-err (placed_key row i r) e (sym h))

-- ---- the number of values

pub read_batch-many : {A X : Type 0} (read : ℕ → A → Result X BatchRefused) (values : List A) (n : ℕ) → length values ≡ n → 1024 < n → read_batch read values ≡ Err (too_many n)
read_batch-many read values n same h = let test : ltb 1024 n ≡ true = grind (arith, nat_tests) in rw (same, test) refl

pub read_batch-few : {A X : Type 0} (read : ℕ → A → Result X BatchRefused) (values : List A) (n : ℕ) → length values ≡ n → n ≤ 1024 → read_batch read values ≡ read_each read 0 values
read_batch-few read values n same h = let test : ltb 1024 n ≡ false = grind (arith, nat_tests) in rw (same, test) refl
