use Rattle.std.proofs.Common.{◌≡◌, drop}
use Rattle.cell_core.specs.RawViews.{raw_view}
use Rattle.row_cells.specs.Rows.{read_each}
use Rattle.row_cells.proofs.Fronts.{with_front}
use Rattle.json_rows.specs.Reading.{read_row}
use Rattle.json_rows.proofs.rows.patches.Given as goal

abbrev pub invariant-loop-row : goal.invariant-loop-row
invariant-loop-row l =
    with_front l.found (read_each (λ row v. read_row l.schema row (raw_view v)) l.row (drop l.row l.rows))
    ≡ read_each (λ row v. read_row l.schema row (raw_view v)) 0 l.rows
