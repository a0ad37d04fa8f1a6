-- What a request is answered where memory is plenty: the first refusal whose condition holds, and
-- else what is granted.
use Rattle.std.specs.Prelude.{ℕ, ◌+◌, ◌-◌, ◌==◌, nat_lt, nat_le, List, [], ◌∷◌, ◌++◌, length, map, take, drop, slice_get, Bool, true, false, not, Option, Some, None, is_some, is_none, option_map, option_and_then, Result, Ok, Err, if◌then◌else◌}
use Rattle.cell_core.specs.Keepings.{is_indexed}
use Rattle.cell_core.specs.Limits.{max_rows}
use Rattle.cell_core.specs.Schemas.{SchemaData, schema_of, type_name}
use Rattle.cell_core.specs.declared.cell.Cell.{Cell}
use Rattle.cell_core.specs.declared.schema.Column.{Column}
use Rattle.cell_core.specs.declared.schema.ColumnWords.{ColumnWords}
use Rattle.cell_core.specs.declared.schema.Keeping.{Keeping}
use Rattle.cell_core.specs.declared.schema.Keeping.TheVariants.{Indexed, Limited, Free}
use Rattle.cell_core.specs.declared.schema.SchemaRefused.{SchemaRefused}
use Rattle.cell_core.specs.declared.schema.SchemaRefused.TheVariants as schema
use Rattle.row_batch.specs.declared.batch.Batch.{Batch}
use Rattle.row_batch.specs.declared.refused.BatchRefused.{BatchRefused}
use Rattle.frame_types.specs.Asks.{Ask}
use Rattle.frame_types.specs.Asks as ask
use Rattle.frame_types.specs.Refusals.{frame_cause, bad_frame, table_set, bad_schema, too_many_ports, no_port, port_closed, bad_rows, not_indexed, port_full, table_full, history_full, empty, too_many_views, no_view, view_lost, no_row, not_a_group, too_many_open, bad_window, no_table, memory}
use Rattle.frame_types.specs.declared.reply.Body.{Body}
use Rattle.frame_types.specs.declared.reply.Body.TheVariants as body
use Rattle.frame_types.specs.declared.reply.Refusal.{Refusal}
use Rattle.plan_types.specs.declared.plan.Plan.{Plan}
use Rattle.view_types.specs.declared.key.ViewKey.TheVariants.{Group}
use Rattle.view_types.specs.declared.shown.Shown.{Shown}
use Rattle.delta_core.specs.Rows.{has_row}
use Rattle.view_shape.specs.Singles.{other_singles}
use Rattle.hub_spec.specs.Past.{PastStep}
use Rattle.hub_spec.specs.Bases.{delta_in, dirty, shown_in}
use Rattle.hub_spec.specs.HeldViews.{HeldView, views, held_view, held_by, opened_count, opened_view, shown}
use Rattle.hub_spec.specs.Limits.{max_waiting, max_ports, max_singles, max_views}
use Rattle.hub_spec.specs.Ports.{schema as schema_made, ports, has_port, is_closed, used_ports, batches_accepted, taken_count, waiting, all_waiting}
use Rattle.hub_spec.specs.Plans.{plan_asked}
use Rattle.hub_spec.specs.Reading.{read_batch, batch_asked}
use Rattle.hub_spec.specs.Room.{rows_with}
use Rattle.hub_spec.specs.Rows.{schema_or_none, rows}

-- the refusal, where its condition holds
abbrev pub refused_if : Bool → Refusal → Option Refusal
refused_if true why = Some why
refused_if false why = None

abbrev pub unless_refused : Option Refusal → Body → Body
unless_refused None grant = grant
unless_refused (Some why) grant = body.Refused why

-- the first of these that is a refusal; where none is, the answer is what is granted
abbrev pub first_of : List (Option Refusal) → Body → Body
first_of [] grant = grant
first_of (check ∷ checks) grant = unless_refused check (first_of checks grant)

-- ---- checks, each with its refusal

abbrev pub without_table : List PastStep → Option Refusal
without_table past = refused_if (is_none (schema_made past)) no_table

abbrev pub without_port : List PastStep → ℕ → Option Refusal
without_port past port = refused_if (not (has_port past port)) no_port

abbrev pub closed_port : List PastStep → ℕ → Option Refusal
closed_port past port = refused_if (is_closed past port) port_closed

-- the schema's first fault
abbrev pub faulty_schema : Result SchemaData SchemaRefused → Option Refusal
faulty_schema (Ok made) = None
faulty_schema (Err (schema.Bad why at)) = Some (bad_schema why at)
faulty_schema (Err schema.Memory) = Some memory

-- the first cause against the rows or keys
abbrev pub faulty_rows : Option (Result Batch BatchRefused) → Option Refusal
faulty_rows None = None
faulty_rows (Some (Ok batch)) = None
faulty_rows (Some (Err why)) = Some (bad_rows why)

abbrev pub bad_batch : List PastStep → Ask → Option Refusal
bad_batch past request = faulty_rows (option_and_then (λ made. read_batch made request) (schema_made past))

abbrev pub without_index : List PastStep → Option Refusal
without_index past = refused_if (not (is_indexed (schema_or_none past).keeping)) not_indexed

abbrev pub full_port : List PastStep → ℕ → Option Refusal
full_port past port = refused_if (nat_le max_waiting (length (waiting past port))) port_full

-- the rows may come to more than a table has
abbrev pub too_many_rows : ℕ → Option Refusal
too_many_rows would = refused_if (nat_lt max_rows would) (table_full would)

abbrev pub full_table_for : List PastStep → Option Batch → Option Refusal
full_table_for past None = None
full_table_for past (Some batch) = too_many_rows (rows_with (schema_or_none past).keeping past batch)

abbrev pub full_table : List PastStep → Ask → Option Refusal
full_table past request = full_table_for past (batch_asked (schema_made past) request)

abbrev pub nothing_waits : List PastStep → ℕ → Option Refusal
nothing_waits past port = refused_if (length (waiting past port) == 0) empty

abbrev pub without_view : List PastStep → ℕ → ℕ → Option Refusal
without_view past session view = refused_if (is_none (held_view past session view)) no_view

abbrev pub lost_view : Option HeldView → Option Refusal
lost_view None = None
lost_view (Some v) = option_map view_lost v.lost

-- no group row that the view shows has that path
abbrev pub without_row : List PastStep → ℕ → ℕ → List Cell → Option Refusal
without_row past session view path = refused_if (not (has_row (Group path) (shown_in past session view).rows)) no_row

-- the path is as long as the group columns
abbrev pub whole_path : Option HeldView → List Cell → Option Refusal
whole_path None path = None
whole_path (Some v) path = refused_if (length path == length v.plan.group_by) not_a_group

-- so many other groups were opened or closed one by one
abbrev pub full_of_singles : Option HeldView → List Cell → Option Refusal
full_of_singles None path = None
full_of_singles (Some v) path = refused_if (nat_le max_singles (other_singles v.opening path)) too_many_open

-- why there is no plan
abbrev pub faulty_plan : Result Plan Refusal → Option Refusal
faulty_plan (Ok plan) = None
faulty_plan (Err why) = Some why

-- ---- refusals, in the order in which they are tested

-- of a request that needs an open port
abbrev pub port_checks : List PastStep → ℕ → List (Option Refusal)
port_checks past port = without_table past ∷ without_port past port ∷ closed_port past port ∷ []

-- of a request that puts rows
abbrev pub putting : List PastStep → ℕ → Ask → List (Option Refusal)
putting past port request = port_checks past port ++ bad_batch past request ∷ full_port past port ∷ full_table past request ∷ []

-- of a request that asks a view
abbrev pub view_checks : List PastStep → ℕ → ℕ → List (Option Refusal)
view_checks past session view = without_table past ∷ without_view past session view ∷ lost_view (held_view past session view) ∷ []

-- of a request that opens or closes a group
abbrev pub group_checks : List PastStep → ℕ → ℕ → List Cell → List (Option Refusal)
group_checks past session view path =
    view_checks past session view
    ++ without_row past session view path
    ∷ whole_path (held_view past session view) path
    ∷ full_of_singles (held_view past session view) path
    ∷ []

abbrev pub refusals : List PastStep → ℕ → Ask → List (Option Refusal)
refusals past session (ask.table columns index limit) =
    refused_if (is_some (schema_made past)) table_set
    ∷ faulty_schema (schema_of columns index limit)
    ∷ []
refusals past session ask.port =
    without_table past
    ∷ refused_if (nat_le max_ports (length (used_ports past))) too_many_ports
    ∷ []
refusals past session ask.leave = []
refusals past session ask.info = without_table past ∷ []
refusals past session (ask.update port rows) = putting past port (ask.update port rows)
refusals past session (ask.replace port rows) = putting past port (ask.replace port rows)
refusals past session (ask.csv port text) = putting past port (ask.csv port text)
refusals past session (ask.remove port keys) =
    port_checks past port ++ without_index past ∷ bad_batch past (ask.remove port keys) ∷ full_port past port ∷ []
refusals past session (ask.clear port) = port_checks past port ++ full_port past port ∷ []
refusals past session (ask.close_port port) = port_checks past port
refusals past session (ask.apply port) =
    without_table past
    ∷ without_port past port
    ∷ nothing_waits past port
    ∷ []
refusals past session (ask.open_view plan bound) =
    without_table past
    ∷ faulty_plan (plan_asked (schema_or_none past) plan)
    ∷ refused_if (nat_le max_views (length (views past))) too_many_views
    ∷ []
refusals past session (ask.edit_view view plan) =
    view_checks past session view ++ faulty_plan (plan_asked (schema_or_none past) plan) ∷ []
refusals past session (ask.depth view depth) = view_checks past session view
refusals past session (ask.expand view path) = group_checks past session view path
refusals past session (ask.collapse view path) = group_checks past session view path
refusals past session (ask.take view wait) = view_checks past session view
refusals past session (ask.rows view first end) = view_checks past session view ++ refused_if (nat_lt end first) (bad_window first end) ∷ []
refusals past session (ask.close view) =
    without_table past
    ∷ without_view past session view
    ∷ []
refusals past session (ask.unread why) = Some (bad_frame (frame_cause why)) ∷ []

-- ---- what is granted

-- the delta of a view where no more keys are dirty than its bound, and else all that it shows
abbrev pub take_answer : List PastStep → ℕ → ℕ → Option HeldView → Body
take_answer past session view None = body.Refused no_view
take_answer past session view (Some v) =
    if nat_le (length (dirty past session view)) v.bound then body.Delta (delta_in past session view) view
    else body.Resync v.bound v.edit (shown past v) view

-- the rows at positions from `first` up to and without `end`
abbrev pub window : ℕ → ℕ → Shown → Shown
window first end shown = record shown { rows = take (end - first) (drop first shown.rows) }

abbrev pub window_of : Option HeldView → (HeldView → Shown) → ℕ → ℕ → ℕ → Body
window_of None shows view first end = body.Refused no_view
window_of (Some v) shows view first end = body.Rows v.edit first (window first end (shows v)) (length (shows v).rows) view

-- the number of the batch that is queued next
abbrev pub queued : List PastStep → ℕ → Body
queued past port = body.Queued port (length (batches_accepted past port) + 1)

abbrev pub column_words : Column → ColumnWords
column_words c = record { name = c.name; kind = type_name c.kind }

abbrev pub index_name : SchemaData → Keeping → Option (List ℕ)
index_name made (Indexed column) = option_map (λ c. c.name) (slice_get made.columns column)
index_name made (Limited slots) = None
index_name made Free = None

abbrev pub limit_in : Keeping → Option ℕ
limit_in (Indexed column) = None
limit_in (Limited slots) = Some slots
limit_in Free = None

abbrev pub info_of : SchemaData → ℕ → ℕ → Body
info_of made size waits =
    body.Info (map column_words made.columns) (index_name made made.keeping) (limit_in made.keeping) size waits

abbrev pub opened_answer : List PastStep → ℕ → ℕ → Result Plan Refusal → Body
opened_answer past session bound (Err why) = body.Refused why
opened_answer past session bound (Ok plan) =
    body.Opened 0 (shown past (opened_view session (opened_count past session) plan bound)) (opened_count past session)

-- one edit more
abbrev pub edited_answer : ℕ → Option HeldView → Body
edited_answer view None = body.Refused no_view
edited_answer view (Some v) = body.Edited (v.edit + 1) view

abbrev pub grant : List PastStep → ℕ → Ask → Body
grant past session (ask.table columns index limit) = body.Table
grant past session ask.port = body.Port (ports past)
grant past session ask.leave = body.Left (held_by past session)
grant past session ask.info = info_of (schema_or_none past) (length (rows past)) (length (all_waiting past))
grant past session (ask.update port rows) = queued past port
grant past session (ask.replace port rows) = queued past port
grant past session (ask.csv port text) = queued past port
grant past session (ask.remove port keys) = queued past port
grant past session (ask.clear port) = queued past port
grant past session (ask.close_port port) = body.PortClosed port
grant past session (ask.apply port) = body.Applied port (taken_count past port + 1)
grant past session (ask.open_view plan bound) = opened_answer past session bound (plan_asked (schema_or_none past) plan)
grant past session (ask.edit_view view plan) = edited_answer view (held_view past session view)
grant past session (ask.depth view depth) = edited_answer view (held_view past session view)
grant past session (ask.expand view path) = edited_answer view (held_view past session view)
grant past session (ask.collapse view path) = edited_answer view (held_view past session view)
grant past session (ask.take view wait) = take_answer past session view (held_view past session view)
grant past session (ask.rows view first end) = window_of (held_view past session view) (shown past) view first end
grant past session (ask.close view) = body.Closed view
grant past session (ask.unread why) = body.Refused (bad_frame (frame_cause why))

-- the answer of a history of at most `limit` steps, where memory is plenty
abbrev pub plain : ℕ → List PastStep → ℕ → Ask → Body
plain limit past session request =
    first_of (refused_if (nat_le limit (length past)) (history_full limit) ∷ refusals past session request) (grant past session request)
