-- A row that fits some columns, cell by cell.
use Rattle.std.proofs.Common.{◌≡◌, ℕ, ◌+◌, ◌<◌, List, [], ◌∷◌, ◌++◌, length, get_or, take, None, sym, ap, ◌∙◌, subst}
use Rattle.std.proofs.lemmas.List.{take_more}
use Rattle.cell_core.specs.declared.cell.Cell.{Cell}
use Rattle.cell_core.specs.declared.schema.Column.{Column}
use Rattle.row_batch.specs.Changes.{FitsColumns}
use Rattle.row_batch.specs.Checks.{cell_fault}

fits_push : (cs : List Column) (xs : List Cell) (c : Column) (x : Cell) → FitsColumns cs xs → cell_fault c.kind x ≡ None → FitsColumns (cs ++ c ∷ []) (xs ++ x ∷ [])
fits_push [] [] c x h one = (one, tt)
fits_push (d ∷ cs) (y ∷ xs) c x h one = (h.0, fits_push cs xs c x h.1 one)
fits_push [] (y ∷ xs) c x h one = absurd h
fits_push (d ∷ cs) [] c x h one = absurd h

-- one cell more
pub fits_next : (cs : List Column) (xs : List Cell) (i : ℕ) (c : Column) (x : Cell) → i < length cs → i < length xs → c ≡ get_or cs i c → x ≡ get_or xs i x
    → FitsColumns (take i cs) (take i xs) → cell_fault c.kind x ≡ None → FitsColumns (take (i + 1) cs) (take (i + 1) xs)
fits_next cs xs i c x in_cs in_xs is_c is_x h one =
    let columns : take (i + 1) cs ≡ take i cs ++ c ∷ [] = take_more cs i c in_cs ∙ ap (λ d. take i cs ++ d ∷ []) (sym is_c) in
    let cells : take (i + 1) xs ≡ take i xs ++ x ∷ [] = take_more xs i x in_xs ∙ ap (λ y. take i xs ++ y ∷ []) (sym is_x) in
    subst (λ ds. FitsColumns ds (take (i + 1) xs)) (sym columns) (subst (FitsColumns (take i cs ++ c ∷ [])) (sym cells) (fits_push (take i cs) (take i xs) c x h one))
