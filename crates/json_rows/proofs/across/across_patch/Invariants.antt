use Rattle.std.proofs.Common.{◌≡◌, drop}
use Rattle.cell_core.specs.RawViews.{map_view}
use Rattle.row_cells.specs.Rows.{read_each, placed}
use Rattle.row_cells.proofs.Fronts.{with_front}
use Rattle.json_rows.specs.Reading.{member_of, row_across}
use Rattle.json_rows.proofs.across.across_patch.Given as goal

abbrev pub invariant-loop-i : goal.invariant-loop-i
invariant-loop-i l =
    with_front l.cells (read_each (λ i c. placed l.schema.keeping l.row i (member_of (row_across l.row (map_view l.lists)) c)) l.i (drop l.i l.columns))
    ≡ read_each (λ i c. placed l.schema.keeping l.row i (member_of (row_across l.row (map_view l.lists)) c)) 0 l.columns
