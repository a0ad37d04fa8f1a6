-- The batch that a request asks for.
use Rattle.std.specs.Prelude.{Option, Some, None, Result, Ok, Err, option_and_then}
use Rattle.std.specs.Result.{result_ok}
use Rattle.cell_core.specs.Schemas.{SchemaData}
use Rattle.row_batch.specs.declared.batch.Batch.{Batch}
use Rattle.row_batch.specs.declared.batch.Batch.TheVariants as batch
use Rattle.row_batch.specs.declared.refused.BatchRefused.{BatchRefused}
use Rattle.json_rows.specs.Reading.{read_rows, read_keys}
use Rattle.csv_rows.specs.Reading.{read_csv}
use Rattle.frame_types.specs.Asks.{Ask}
use Rattle.frame_types.specs.Asks as ask

abbrev pub read_as : {X : Type 0} → (X → Batch) → Result X BatchRefused → Result Batch BatchRefused
read_as kind (Ok x) = Ok (kind x)
read_as kind (Err why) = Err why

-- what the request queues on a table of that schema, or the first cause against it; none for a
-- request that queues nothing
abbrev pub read_batch : SchemaData → Ask → Option (Result Batch BatchRefused)
read_batch schema (ask.update port rows) = Some (read_as batch.Update (read_rows schema rows))
read_batch schema (ask.replace port rows) = Some (read_as batch.Replace (read_rows schema rows))
read_batch schema (ask.csv port text) = Some (read_as batch.Update (read_csv schema text))
read_batch schema (ask.remove port keys) = Some (read_as batch.Remove (read_keys schema keys))
read_batch schema (ask.clear port) = Some (Ok batch.Clear)
read_batch schema other = None

-- the batch, where there is one
abbrev pub batch_asked : Option SchemaData → Ask → Option Batch
batch_asked None request = None
batch_asked (Some schema) request = option_and_then result_ok (read_batch schema request)
