use Rattle.std.proofs.Common.{◌≡◌, drop}
use Rattle.row_cells.specs.Rows.{read_each}
use Rattle.row_cells.proofs.Fronts.{with_front}
use Rattle.csv_rows.specs.Reading.{read_record}
use Rattle.csv_rows.proofs.rows.patches.Given as goal

abbrev pub invariant-loop-row : goal.invariant-loop-row
invariant-loop-row l =
    with_front l.found (read_each (read_record l.schema l.names) l.row (drop l.row l.rows)) ≡ read_each (read_record l.schema l.names) 0 l.rows
