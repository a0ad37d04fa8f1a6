-- Laws of steps: what a table's own calls are to the views of its rows.
use Rattle.std.specs.Prelude.{◌≡◌, List}
use Rattle.plain_data.specs.Distinct.{AreDistinct}
use Rattle.row_batch.specs.Batches.{put_batch}
use Rattle.row_batch.specs.Changes.{AreChangesOf}
use Rattle.row_batch.specs.Tables.{IsReordered, keys_of_rows}
use Rattle.row_batch.specs.declared.batch.Batch.{Batch}
use Rattle.row_batch.specs.declared.change.RowChange.{RowChange}
use Rattle.table_core.specs.Tables.{IsStill, TableData}
use Rattle.plan_types.specs.declared.plan.Plan.{Plan}
use Rattle.view_spec.specs.Openings.{Opening}
use Rattle.view_kept.specs.Steps.{IsOfTable, IsStep, side_of}

-- a batch that was prepared and applied is a step of each view of the rows before it, by the changes that the table answers
abbrev pub BatchesAreSteps : Type 0
BatchesAreSteps = (plan : Plan) (opening : Opening) (was ready now : TableData) (batch : Batch) (changes : List RowChange) → AreDistinct (keys_of_rows was.store.pairs)
    → IsStill was ready → now.schema ≡ ready.schema → IsReordered (put_batch ready.schema ready.store batch) now.store → AreChangesOf ready.schema ready.store batch changes
    → IsStep (side_of plan opening was) changes now

-- a view of a table's rows is of the table
abbrev pub ViewsAreOfTables : Type 0
ViewsAreOfTables = (plan : Plan) (opening : Opening) (table : TableData) → AreDistinct (keys_of_rows table.store.pairs) → IsOfTable (side_of plan opening table) table
