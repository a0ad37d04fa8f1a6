-- The refusals, each with its code and its cause.
use Rattle.std.specs.Prelude.{ℕ, List, [], ◌++◌, codes}
use Rattle.cell_core.specs.declared.schema.Numbers.{Numbers}
use Rattle.cell_core.specs.declared.schema.Numbers.TheVariants.{Zero, One, Two}
use Rattle.cell_core.specs.declared.schema.SchemaCause.{SchemaCause}
use Rattle.cell_core.specs.declared.schema.SchemaCause.TheVariants as schema
use Rattle.row_batch.specs.declared.refused.BatchRefused.{BatchRefused}
use Rattle.row_batch.specs.declared.refused.RowCause.{RowCause}
use Rattle.row_batch.specs.declared.refused.RowCause.TheVariants as row
use Rattle.plan_json.specs.Words.{part_name, plan_word}
use Rattle.plan_json.specs.declared.words.PlanCause.{PlanCause}
use Rattle.plan_json.specs.declared.words.PlanPart.{PlanPart}
use Rattle.frame_types.specs.declared.request.FrameCause.{FrameCause}
use Rattle.frame_types.specs.declared.request.FrameCause.TheVariants as frame
use Rattle.frame_types.specs.declared.reply.Cause.{Cause}
use Rattle.frame_types.specs.declared.reply.Cause.TheVariants as cause
use Rattle.frame_types.specs.declared.reply.Refusal.{Refusal}

-- ---- the words

abbrev pub cause_name : Cause → List ℕ
cause_name cause.Long = codes "long"
cause_name cause.Json = codes "json"
cause_name cause.Object = codes "object"
cause_name cause.Op = codes "op"
cause_name cause.Member = codes "member"
cause_name cause.TableSet = codes "table set"
cause_name cause.NoColumns = codes "no columns"
cause_name cause.TooManyColumns = codes "too many columns"
cause_name cause.NameLength = codes "name length"
cause_name cause.BadType = codes "type"
cause_name cause.Twice = codes "twice"
cause_name cause.IndexAndLimit = codes "index and limit"
cause_name cause.Index = codes "index"
cause_name cause.Limit = codes "limit"
cause_name cause.TooManyPorts = codes "too many ports"
cause_name cause.NoPort = codes "no port"
cause_name cause.PortClosed = codes "port closed"
cause_name cause.Shape = codes "shape"
cause_name cause.Csv = codes "csv"
cause_name cause.Header = codes "header"
cause_name cause.Unknown = codes "unknown"
cause_name cause.Length = codes "length"
cause_name cause.Rows = codes "rows"
cause_name cause.Date = codes "date"
cause_name cause.Range = codes "range"
cause_name cause.NotIndexed = codes "not indexed"
cause_name cause.PortFull = codes "port full"
cause_name cause.TableFull = codes "table full"
cause_name cause.HistoryFull = codes "history full"
cause_name cause.Empty = codes "empty"
cause_name cause.PlanForm = codes "form"
cause_name (cause.Plan part word) = plan_word word
cause_name cause.TooManyViews = codes "too many views"
cause_name cause.NoView = codes "no view"
cause_name cause.ViewLost = codes "view lost"
cause_name cause.NoRow = codes "no row"
cause_name cause.NotAGroup = codes "not a group"
cause_name cause.TooManyOpen = codes "too many open"
cause_name cause.Window = codes "window"
cause_name cause.NoTable = codes "no table"
cause_name cause.Memory = codes "memory"

-- the member of a plan stands before its cause
abbrev pub cause_place : Cause → List ℕ
cause_place (cause.Plan part word) = part_name part ++ codes ": "
cause_place other = []

abbrev pub cause_text : Cause → List ℕ
cause_text why = cause_place why ++ cause_name why

abbrev pub frame_cause : FrameCause → Cause
frame_cause frame.Long = cause.Long
frame_cause frame.Json = cause.Json
frame_cause frame.Object = cause.Object
frame_cause frame.Op = cause.Op
frame_cause frame.Member = cause.Member

abbrev pub schema_cause : SchemaCause → Cause
schema_cause schema.NoColumns = cause.NoColumns
schema_cause schema.TooManyColumns = cause.TooManyColumns
schema_cause schema.NameLength = cause.NameLength
schema_cause schema.BadType = cause.BadType
schema_cause schema.Twice = cause.Twice
schema_cause schema.IndexAndLimit = cause.IndexAndLimit
schema_cause schema.Index = cause.Index
schema_cause schema.Limit = cause.Limit

abbrev pub row_cause : RowCause → Cause
row_cause row.Shape = cause.Shape
row_cause row.Csv = cause.Csv
row_cause row.Header = cause.Header
row_cause row.Twice = cause.Twice
row_cause row.Unknown = cause.Unknown
row_cause row.Length = cause.Length
row_cause row.Rows = cause.Rows
row_cause row.Index = cause.Index
row_cause row.BadType = cause.BadType
row_cause row.Date = cause.Date
row_cause row.Range = cause.Range
row_cause row.Long = cause.Long

-- ---- the refusals by their codes

-- the line is no request
abbrev pub bad_frame : Cause → Refusal
bad_frame why = record { code = 1; cause = why; at = Zero }

-- a table was made before
abbrev pub table_set : Refusal
table_set = record { code = 2; cause = cause.TableSet; at = Zero }

-- the columns, the index or the limit are refused
abbrev pub bad_schema : SchemaCause → Numbers → Refusal
bad_schema why place = record { code = 3; cause = schema_cause why; at = place }

-- 16 ports are open or hold waiting batches
abbrev pub too_many_ports : Refusal
too_many_ports = record { code = 4; cause = cause.TooManyPorts; at = One 16 }

-- no port of that number was made
abbrev pub no_port : Refusal
no_port = record { code = 5; cause = cause.NoPort; at = Zero }

-- the port was closed
abbrev pub port_closed : Refusal
port_closed = record { code = 6; cause = cause.PortClosed; at = Zero }

-- the rows or keys are refused
abbrev pub bad_rows : BatchRefused → Refusal
bad_rows why = record { code = 7; cause = row_cause why.cause; at = why.at }

-- the table has no index
abbrev pub not_indexed : Refusal
not_indexed = record { code = 8; cause = cause.NotIndexed; at = Zero }

-- 64 batches wait on the port
abbrev pub port_full : Refusal
port_full = record { code = 9; cause = cause.PortFull; at = One 64 }

-- with the batch the table would have that many rows
abbrev pub table_full : ℕ → Refusal
table_full would = record { code = 10; cause = cause.TableFull; at = Two would 65536 }

-- so many requests were answered
abbrev pub history_full : ℕ → Refusal
history_full limit = record { code = 11; cause = cause.HistoryFull; at = One limit }

-- no batch waits on the port
abbrev pub empty : Refusal
empty = record { code = 12; cause = cause.Empty; at = Zero }

-- a plan that is no object of a plan's members
abbrev pub plan_form : Refusal
plan_form = record { code = 13; cause = cause.PlanForm; at = Zero }

-- a member of a plan
abbrev pub bad_plan : PlanPart → PlanCause → Numbers → Refusal
bad_plan part why at = record { code = 13; cause = cause.Plan part why; at = at }

-- 16 views are held
abbrev pub too_many_views : Refusal
too_many_views = record { code = 14; cause = cause.TooManyViews; at = One 16 }

-- the session holds no view of that number
abbrev pub no_view : Refusal
no_view = record { code = 15; cause = cause.NoView; at = Zero }

-- an update of the view found no memory, at that version
abbrev pub view_lost : ℕ → Refusal
view_lost version = record { code = 16; cause = cause.ViewLost; at = One version }

-- no shown group row has that path
abbrev pub no_row : Refusal
no_row = record { code = 17; cause = cause.NoRow; at = Zero }

-- the path is as long as the view's group columns
abbrev pub not_a_group : Refusal
not_a_group = record { code = 18; cause = cause.NotAGroup; at = Zero }

-- 4,096 other groups of the view were opened or closed one by one
abbrev pub too_many_open : Refusal
too_many_open = record { code = 19; cause = cause.TooManyOpen; at = One 4096 }

-- the window ends before it begins
abbrev pub bad_window : ℕ → ℕ → Refusal
bad_window first end = record { code = 20; cause = cause.Window; at = Two first end }

-- no table was made
abbrev pub no_table : Refusal
no_table = record { code = 21; cause = cause.NoTable; at = Zero }

-- memory was wanted and not given
abbrev pub memory : Refusal
memory = record { code = 22; cause = cause.Memory; at = Zero }
