use Rattle.std.proofs.Common.{◌≡◌, ◌++◌, drop, map}
use Rattle.expr_spec.specs.TreeViews.{tree_view, arguments_of}
use Rattle.expr_spec.specs.Values.{values_in}
use Rattle.expr_eval.proofs.tree_value.+tree_value.Given as goal

-- with the cells of the arguments that are left, they are all cells
abbrev pub invariant-values-loop-argument : goal.invariant-values-loop-argument
invariant-values-loop-argument l =
    l.cells.items ++ values_in (arguments_of (map tree_view (drop l.argument-index l.arguments))) l.row
    ≡ values_in (arguments_of (map tree_view l.arguments)) l.row
