use Rattle.std.proofs.Common.{◌≡◌, ◌-◌}
use Rattle.cell_core.specs.RawViews.{map_view}
use Rattle.row_cells.specs.Rows.{read_each}
use Rattle.row_cells.proofs.Fronts.{with_front}
use Rattle.json_rows.specs.Reading.{read_row, rows_across}
use Rattle.json_rows.proofs.across.patches.Given as goal

abbrev pub invariant-loop-row : goal.invariant-loop-row
invariant-loop-row l =
    with_front l.found (read_each (read_row l.schema) l.row (rows_across (map_view l.lists) l.row (l.count - l.row)))
    ≡ read_each (read_row l.schema) 0 (rows_across (map_view l.lists) 0 l.count)
