-- Requests that queue a batch.
use Rattle.std.specs.Prelude.{ℕ, Bool, true, false, not, ◌&&◌, List, [], ◌∷◌, Option, Some, None, if◌then◌else◌}
use Rattle.cell_core.specs.Keepings.{is_indexed}
use Rattle.cell_core.specs.RawViews.{raw_view}
use Rattle.cell_core.specs.Schemas.{SchemaData}
use Rattle.row_batch.specs.declared.batch.Batch.{Batch}
use Rattle.row_batch.specs.declared.batch.Batch.TheVariants as batch
use Rattle.frame_types.specs.Asks.{Ask}
use Rattle.frame_types.specs.Asks as ask
use Rattle.frame_types.specs.Refusals.{not_indexed}
use Rattle.frame_types.specs.declared.reply.Refusal.{Refusal}
use Rattle.hub_spec.specs.Past.{PastStep}
use Rattle.hub_spec.specs.Answers.{faulty_rows, full_table_for, refused_if}
use Rattle.hub_spec.specs.Reading.{read_batch}
use Rattle.hub_core.specs.declared.contents.Contents.{Contents}
use Rattle.hub_core.specs.declared.contents.Contents.TheVariants.{Update, Replace, Csv, Remove, Clear}

-- the request that asks to queue this on a port
abbrev pub asked_by : ℕ → Contents → Ask
asked_by port (Update rows) = ask.update port (raw_view rows)
asked_by port (Replace rows) = ask.replace port (raw_view rows)
asked_by port (Csv text) = ask.csv port text
asked_by port (Remove keys) = ask.remove port (raw_view keys)
asked_by port Clear = ask.clear port

abbrev pub needs_index : Contents → Bool
needs_index (Remove keys) = true
needs_index _ = false

-- keys are for a table that has no primary key
abbrev pub lacks_index : SchemaData → Contents → Bool
lacks_index schema contents = needs_index contents && not (is_indexed schema.keeping)

-- what is tested where the contents are read
abbrev pub reading : SchemaData → ℕ → Contents → List (Option Refusal)
reading schema port contents =
    refused_if (lacks_index schema contents) not_indexed ∷ faulty_rows (read_batch schema (asked_by port contents)) ∷ []

abbrev pub puts_rows : Batch → Bool
puts_rows (batch.Update patches) = true
puts_rows (batch.Replace patches) = true
puts_rows _ = false

-- a batch that puts rows needs room for them
abbrev pub without_room : List PastStep → Batch → Option Refusal
without_room past b = if puts_rows b then full_table_for past (Some b) else None
