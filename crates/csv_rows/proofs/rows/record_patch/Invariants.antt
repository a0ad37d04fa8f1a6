use Rattle.std.proofs.Common.{◌≡◌, drop}
use Rattle.row_cells.specs.Rows.{read_each, placed}
use Rattle.row_cells.proofs.Fronts.{with_front}
use Rattle.csv_rows.specs.Reading.{field_of}
use Rattle.csv_rows.proofs.rows.record_patch.Given as goal

abbrev pub invariant-loop-i : goal.invariant-loop-i
invariant-loop-i l =
    with_front l.cells (read_each (λ i c. placed l.schema.keeping l.row i (field_of l.names l.fields c)) l.i (drop l.i l.columns))
    ≡ read_each (λ i c. placed l.schema.keeping l.row i (field_of l.names l.fields c)) 0 l.columns
