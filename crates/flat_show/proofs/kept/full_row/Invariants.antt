use Rattle.std.proofs.Common.{◌≡◌, ◌++◌, map, take}
use Rattle.expr_spec.specs.TreeViews.{tree_view}
use Rattle.expr_spec.specs.Values.{value_in}
use Rattle.plan_types.specs.declared.plan.Expression.{Expression}
use Rattle.flat_show.proofs.kept.full_row.Given as goal

abbrev pub invariant-loop-expression : goal.invariant-loop-expression
invariant-loop-expression l =
    l.cells ≡ l.row ++ map (λ (e : Expression). value_in (tree_view e.tree) l.row) (take l.expression-index l.expression-items)
