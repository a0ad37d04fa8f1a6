-- The cells of arguments, one after another.
use Rattle.std.proofs.Common.{◌≡◌, ℕ, ◌+◌, ◌<◌, List, [], ◌∷◌, ◌++◌, map, length, get_or, drop, refl, sym, ◌∙◌, ap, add-one, drop-cons, append_assoc}
use Rattle.cell_core.specs.declared.cell.Cell.{Cell}
use Rattle.plan_types.specs.declared.tree.Tree.{Tree}
use Rattle.expr_spec.specs.TreeViews.{tree_view, arguments_of}
use Rattle.expr_spec.specs.Values.{value_in, values_in}

-- the cells of the arguments from place i on
rest : List Tree → ℕ → List Cell → List Cell
rest trees i row = values_in (arguments_of (map tree_view (drop i trees))) row

rest-cons : (trees : List Tree) (i : ℕ) (t : Tree) (row : List Cell) → i < length trees → t ≡ get_or trees i t
    → rest trees i row ≡ value_in (tree_view t) row ∷ rest trees (i + 1) row
unfolding rest
rest-cons trees i t row h e = rw (drop-cons trees i t h, ← e, add-one) refl

pub values_push : (cells new : List Cell) (c : Cell) (trees : List Tree) (i : ℕ) (t : Tree) (row all : List Cell) → i < length trees → t ≡ get_or trees i t
    → c ≡ value_in (tree_view t) row → new ≡ cells ++ c ∷ []
    → cells ++ values_in (arguments_of (map tree_view (drop i trees))) row ≡ all
    → new ++ values_in (arguments_of (map tree_view (drop (i + 1) trees))) row ≡ all
unfolding rest
values_push cells new c trees i t row all h e v n before =
    rw (n, append_assoc cells (c ∷ []) (rest trees (i + 1) row), v) (ap (λ xs. cells ++ xs) (sym (rest-cons trees i t row h e)) ∙ before)
