use Rattle.std.proofs.Common.{◌≡◌, drop}
use Rattle.row_cells.specs.Rows.{read_each}
use Rattle.row_cells.proofs.Fronts.{with_front}
use Rattle.plan_check.specs.Expressions.{expression_at}
use Rattle.plan_check.proofs.expressions.expression_list.Given as goal

abbrev pub invariant-loop-i : goal.invariant-loop-i
invariant-loop-i l =
    with_front l.found (read_each (expression_at l.schema.columns) l.i (drop l.i l.texts)) ≡ read_each (expression_at l.schema.columns) 0 l.texts
