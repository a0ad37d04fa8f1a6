-- A row patched cell by cell, and the row of a key patched in its place.
use Rattle.std.proofs.Common.{◌≡◌, ℕ, zero, suc, ◌+◌, ◌<◌, ltb, get_or, set, Bool, true, false, cond, not, List, [], ◌∷◌, ◌++◌, length, drop, Some, None, position, refl, sym, ap, ◌∙◌, add-one, arith}
use Rattle.std.specs.List.{prefix_len}
use Rattle.std.proofs.lemmas.Bool.Decides.{nat_tests}
use Rattle.std.proofs.lemmas.List.{drop_more}
use Rattle.std.proofs.lemmas.List.Quantifiers.{position-Some}
use Rattle.cell_core.specs.declared.cell.Cell.{Cell}
use Rattle.cell_core.specs.Cells.{same_cell}
use Rattle.row_batch.specs.declared.batch.PatchCell.{PatchCell}
use Rattle.row_batch.specs.declared.batch.PatchCell.TheVariants.{Keep}
use Rattle.row_batch.specs.declared.batch.Pair.{Pair}
use Rattle.row_batch.specs.Batches.{patched_cell, patched, new_row, pair_of, put_at}

-- ---- one row

patched-nil : (cs : List Cell) → patched cs [] ≡ cs
patched-nil [] = refl
patched-nil (c ∷ cs) = refl

drop-nil : (i : ℕ) → (let none : List PatchCell = [] in drop i none ≡ none)
drop-nil zero = refl
drop-nil (suc i) = refl

kept_after : (row : List Cell) (i : ℕ) → patched (drop i row) (drop i []) ≡ drop i row
kept_after row i = ap (patched (drop i row)) (drop-nil i) ∙ patched-nil (drop i row)

-- the cell at i, and the cells after it
pub patched-drop : (row : List Cell) (patch : List PatchCell) (i : ℕ) (d : Cell) → i < length row
    → patched (drop i row) (drop i patch) ≡ patched_cell (get_or row i d) (get_or patch i Keep) ∷ patched (drop (i + 1) row) (drop (i + 1) patch)
patched-drop [] patch i d h = absurd (omega arith)
patched-drop (c ∷ cs) [] i d h =
    kept_after (c ∷ cs) i ∙ drop_more (c ∷ cs) i d h ∙ ap (λ more. get_or (c ∷ cs) i d ∷ more) (sym (kept_after (c ∷ cs) (i + 1)))
patched-drop (c ∷ cs) (p ∷ ps) zero d h = refl
patched-drop (c ∷ cs) (p ∷ ps) (suc i) d h = rw add-one (let step = patched-drop cs ps i d (omega arith) in rw add-one at step)

-- ---- the row of a key

abbrev pub has_key : Cell → Pair → Bool
has_key key p = same_cell p.key key

put_first : (width : ℕ) (key : Cell) (patch : List PatchCell) (ps : List Pair) (i : ℕ) (d : Pair) → i < length ps → has_key key (get_or ps i d) ≡ true
    → ((k : ℕ) → k < i → has_key key (get_or ps k d) ≡ false)
    → put_at width key patch ps ≡ set ps i (pair_of (get_or ps i d).key (patched (get_or ps i d).row patch))
put_first width key patch [] i d within here before = absurd (omega arith)
put_first width key patch (p ∷ ps) zero d within here before = rw here refl
put_first width key patch (p ∷ ps) (suc i) d within here before =
    let not_here : same_cell p.key key ≡ false = before 0 (omega arith) in
    rw not_here (ap (λ more. p ∷ more) (put_first width key patch ps i d (omega arith) here (λ k lt. before (suc k) (omega arith))))

-- the first row of that key is patched
put_at-Some : (width : ℕ) (key : Cell) (patch : List PatchCell) (ps : List Pair) (i : ℕ) (d : Pair) → position (has_key key) ps ≡ Some i
    → put_at width key patch ps ≡ set ps i (pair_of (get_or ps i d).key (patched (get_or ps i d).row patch))
put_at-Some width key patch ps i d h =
    let found = position-Some (has_key key) ps i d h in
    put_first width key patch ps i d found.0 found.1 found.2

pub put_at-read : (width : ℕ) (key : Cell) (patch : List PatchCell) (ps : List Pair) (i : ℕ) (p : Pair) (row : List Cell) → position (has_key key) ps ≡ Some i
    → p ≡ get_or ps i p → row ≡ patched p.row patch → set ps i (pair_of p.key row) ≡ put_at width key patch ps
put_at-read width key patch ps i p row h read new =
    ap (λ r. set ps i (pair_of p.key r)) new ∙ ap (λ (q : Pair). set ps i (pair_of q.key (patched q.row patch))) read ∙ sym (put_at-Some width key patch ps i p h)

past_end : (b : Bool) (n : ℕ) → cond b (Some n) None ≡ None → b ≡ false
past_end true n h = absurd (let wrong : Some n ≡ None = h in cc)
past_end false n h = refl

abbrev IsAbsent : Cell → List Pair → Type 0
IsAbsent key ps = ltb (prefix_len (λ p. not (has_key key p)) ps) (length ps) ≡ false

absent_step : (width : ℕ) (key : Cell) (patch : List PatchCell) (p : Pair) (ps : List Pair) (b : Bool) → has_key key p ≡ b → IsAbsent key (p ∷ ps)
    → (IsAbsent key ps → put_at width key patch ps ≡ ps ++ pair_of key (new_row width patch) ∷ [])
    → put_at width key patch (p ∷ ps) ≡ (p ∷ ps) ++ pair_of key (new_row width patch) ∷ []
absent_step width key patch p ps true is absent more = absurd (let wrong = rw is at absent in grind (arith, nat_tests, wrong))
absent_step width key patch p ps false is absent more =
    let rest = rw is at absent in
    rw is (ap (λ pairs. p ∷ pairs) (more (grind (arith, nat_tests, rest))))

put_absent : (width : ℕ) (key : Cell) (patch : List PatchCell) (ps : List Pair) → IsAbsent key ps → put_at width key patch ps ≡ ps ++ pair_of key (new_row width patch) ∷ []
put_absent width key patch [] absent = refl
put_absent width key patch (p ∷ ps) absent =
    absent_step width key patch p ps (has_key key p) refl absent (put_absent width key patch ps)

-- a new row stands at the end
pub put_at-None : (width : ℕ) (key : Cell) (patch : List PatchCell) (ps : List Pair) → position (has_key key) ps ≡ None
    → put_at width key patch ps ≡ ps ++ pair_of key (new_row width patch) ∷ []
put_at-None width key patch ps h = put_absent width key patch ps (past_end _ _ h)
