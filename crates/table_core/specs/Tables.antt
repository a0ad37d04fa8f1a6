-- A table as contracts see it.
use Rattle.std.specs.Prelude.{◌≡◌, ℕ, ◌≤◌}
use Rattle.cell_core.specs.Schemas.{SchemaData}
use Rattle.row_batch.specs.declared.batch.Batch.{Batch}
use Rattle.row_batch.specs.Batches.{Store}

-- its rows stand in the map's own order; the room is for how many more rows it has places
pub record TableData : Type 0 where
  pub schema : SchemaData
  pub store : Store
  pub room : ℕ

-- the rows are as they were, and there is no less room
pub record IsStill (was now : TableData) : Type 0 where
  pub schema : now.schema ≡ was.schema
  pub store : now.store ≡ was.store
  pub room : was.room ≤ now.room

-- a batch that was prepared at that table
pub record PreparedData : Type 0 where
  pub table : TableData
  pub batch : Batch
