-- What is made ready for a batch.
use Rattle.std.specs.Prelude.{◌≡◌, ℕ, ◌≤◌, List, Option}
use Rattle.cell_core.specs.declared.cell.Cell.{Cell}
use Rattle.cell_core.specs.Cells.{same_cell}
use Rattle.row_batch.specs.declared.batch.Batch.{Batch}
use Rattle.row_batch.specs.declared.change.RowChange.{RowChange}
use Rattle.row_batch.specs.Batches.{put_batch}
use Rattle.row_batch.specs.Changes.{row_at, AreChangesOf}
use Rattle.row_batch.specs.Tables.{IsTable}
use Rattle.std.specs.Prelude.{unwrap_or}
use Rattle.std.specs.Map.{lookup}
use Rattle.table_core.specs.Lookups.{puts_in}
use Rattle.table_core.specs.Tables.{TableData}

-- the changes of the batch, and the row that each key which they name has after them
pub record IsPrepared (t : TableData) (b : Batch) (cs : List RowChange) (finals : List (Cell × Option (List Cell))) (n : ℕ) : Type 0 where
  pub changes : AreChangesOf t.schema t.store b cs
  pub kept : IsTable t.schema (put_batch t.schema t.store b)
  pub rows : (q : Cell) → row_at (put_batch t.schema t.store b).pairs q ≡ unwrap_or (lookup (same_cell q) finals) (row_at t.store.pairs q)
  pub room : puts_in finals ≤ t.room
  pub number : n ≡ (put_batch t.schema t.store b).number
