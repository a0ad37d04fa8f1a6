-- A group is shown where each group above it is open, asked from the total on.
use Rattle.std.proofs.Common.{◌≡◌, ℕ, ◌+◌, ◌<◌, Bool, true, false, ◌&&◌, List, length, take, drop, sym, ◌∙◌, ap}
use Rattle.std.proofs.lemmas.List.{drop_more, take_more}
use Rattle.cell_core.specs.declared.cell.Cell.{Cell}
use Rattle.cell_core.specs.declared.cell.Cell.TheVariants.{Null}
use Rattle.view_spec.specs.Openings.{Opening, is_open, opens}

-- what is left to ask at a position
abbrev pub asked_from : Opening → List Cell → ℕ → Bool
asked_from opening path i = opens opening (take i path) (drop i path)

asked_more : (opening : Opening) (path : List Cell) (i : ℕ) → i < length path → asked_from opening path i ≡ (is_open opening (take i path) && asked_from opening path (i + 1))
asked_more opening path i within =
    ap (opens opening (take i path)) (drop_more path i Null within)
    ∙ ap (λ done. is_open opening (take i path) && opens opening done (drop (i + 1) path)) (sym (take_more path i Null within))

pub asked_open : (opening : Opening) (path : List Cell) (i : ℕ) → i < length path → is_open opening (take i path) ≡ true → asked_from opening path i ≡ asked_from opening path (i + 1)
asked_open opening path i within opened = asked_more opening path i within ∙ ap (λ b. b && asked_from opening path (i + 1)) opened

pub asked_closed : (opening : Opening) (path : List Cell) (i : ℕ) → i < length path → is_open opening (take i path) ≡ false → asked_from opening path i ≡ false
asked_closed opening path i within closed = asked_more opening path i within ∙ ap (λ b. b && asked_from opening path (i + 1)) closed
