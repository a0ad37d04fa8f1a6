use Rattle.std.proofs.Common.{◌≡◌, drop}
use Rattle.row_cells.specs.Rows.{read_each}
use Rattle.row_cells.proofs.Fronts.{with_front}
use Rattle.plan_check.specs.Columns.{aggregate_at}
use Rattle.plan_check.proofs.columns.aggregates.Given as goal

abbrev pub invariant-loop-i : goal.invariant-loop-i
invariant-loop-i l =
    with_front l.found (read_each (aggregate_at l.columns) l.i (drop l.i l.texts)) ≡ read_each (aggregate_at l.columns) 0 l.texts
