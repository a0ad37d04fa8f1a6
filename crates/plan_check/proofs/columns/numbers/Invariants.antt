use Rattle.std.proofs.Common.{◌≡◌, drop}
use Rattle.row_cells.specs.Rows.{read_each}
use Rattle.row_cells.proofs.Fronts.{with_front}
use Rattle.plan_check.specs.Columns.{number_at}
use Rattle.plan_check.proofs.columns.numbers.Given as goal

abbrev pub invariant-loop-i : goal.invariant-loop-i
invariant-loop-i l =
    with_front l.found (read_each (number_at l.columns l.part l.names) l.i (drop l.i l.names))
    ≡ read_each (number_at l.columns l.part l.names) 0 l.names
