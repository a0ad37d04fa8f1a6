-- Changes drafted beside rows that stay as they are.
use Rattle.std.specs.Prelude.{◌≡◌, ◌^◌, ◌<◌, ◌≤◌, List, length, Option, unwrap_or}
use Rattle.std.specs.Map.{lookup}
use Rattle.plain_data.specs.Distinct.{AreDistinct}
use Rattle.cell_core.specs.declared.cell.Cell.{Cell}
use Rattle.cell_core.specs.Cells.{same_cell}
use Rattle.row_batch.specs.declared.batch.Pair.{Pair}
use Rattle.row_batch.specs.declared.change.RowChange.{RowChange}
use Rattle.row_batch.specs.Batches.{Store}
use Rattle.row_batch.specs.Changes.{max_rows, row_at, changed_all, FitRows}
use Rattle.row_batch.specs.Tables.{keys_of_rows}
use Rattle.table_core.specs.declared.draft.DraftedBatch.{DraftedBatch}

-- the rows after the changes so far, and how far rows are counted
abbrev pub drafted_store : List Pair → DraftedBatch → Store
drafted_store rows d = record { pairs = changed_all rows d.changes.items; number = d.number }

-- a change of what stands at the key then
abbrev pub change_at : List Pair → DraftedBatch → Cell → Option (List Cell) → RowChange
change_at rows d key new = record { key = key; old = row_at (drafted_store rows d).pairs key; new = new }

-- a draft for those rows
pub record IsDraftFor (rows : List Pair) (d : DraftedBatch) : Type 0 where
  pub distinct : AreDistinct (keys_of_rows rows)
  pub fit : FitRows rows d.changes.items
  pub finals : (q : Cell) → row_at (drafted_store rows d).pairs q ≡ unwrap_or (lookup (same_cell q) d.finals.entries) (row_at rows q)
  pub size : d.size ≡ length (drafted_store rows d).pairs
  pub few : d.size ≤ max_rows
  pub counted : d.number < 2 ^ 63
