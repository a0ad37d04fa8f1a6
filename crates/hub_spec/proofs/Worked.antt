-- Worked histories: what the definitions say of them, computed.
use Rattle.std.proofs.Common.{◌≡◌, ℕ, suc, zero, ℤ, pos, negsuc, Bool, true, false, List, [], ◌∷◌, length, Option, Some, None, Err, refl}
use Rattle.std.specs.Prelude.{codes}
use Rattle.std.specs.Fmt.{digits}
use Rattle.value_core.specs.Values.{value_order}
use Rattle.value_core.specs.declared.value.Value.TheVariants.{Whole}
use Rattle.cell_core.specs.RawData.{RawData, raw_null, raw_int, raw_words, raw_list, raw_map, RawItems, no_raw_items, raw_item, no_raw_members, raw_member}
use Rattle.cell_core.specs.Schemas.{SchemaData}
use Rattle.cell_core.specs.declared.cell.Cell.{Cell}
use Rattle.cell_core.specs.declared.cell.Cell.TheVariants.{Int}
use Rattle.cell_core.specs.declared.cell.CellType.TheVariants as kind
use Rattle.cell_core.specs.declared.schema.ColumnWords.{ColumnWords}
use Rattle.cell_core.specs.declared.schema.Keeping.{Keeping}
use Rattle.cell_core.specs.declared.schema.Keeping.TheVariants.{Limited, Free, Indexed}
use Rattle.row_batch.specs.Batches.{empty_store, put_batch}
use Rattle.row_batch.specs.declared.batch.Batch.TheVariants as batch
use Rattle.row_batch.specs.declared.batch.PatchCell.{PatchCell}
use Rattle.row_batch.specs.declared.batch.PatchCell.TheVariants.{Set}
use Rattle.json_rows.specs.Reading.{read_rows}
use Rattle.row_batch.specs.declared.refused.BatchRefused.{BatchRefused}
use Rattle.row_batch.specs.declared.refused.RowCause.TheVariants as row
use Rattle.cell_core.specs.declared.schema.Numbers.TheVariants.{Zero, One, Two}
use Rattle.cell_core.specs.declared.schema.SchemaCause.TheVariants as schema
use Rattle.view_types.specs.declared.key.ViewKey.{ViewKey}
use Rattle.view_types.specs.declared.key.ViewKey.TheVariants.{Row, Group}
use Rattle.view_types.specs.declared.shown.HeaderColumn.{HeaderColumn}
use Rattle.view_types.specs.declared.shown.Shown.{Shown}
use Rattle.view_types.specs.declared.shown.ShownRow.{ShownRow}
use Rattle.view_types.specs.declared.shown.ShownType.TheVariants.{Integer}
use Rattle.delta_core.specs.declared.delta.Mark.{Mark}
use Rattle.delta_core.specs.declared.delta.Put.{Put}
use Rattle.frame_types.specs.Asks.{Ask}
use Rattle.frame_types.specs.Asks as ask
use Rattle.frame_types.specs.Refusals.{no_table, table_set, bad_schema, no_port, port_closed, too_many_ports, bad_rows, not_indexed, port_full, table_full, empty, bad_frame, bad_plan, plan_form, history_full, too_many_views, no_view, view_lost, no_row, not_a_group, too_many_open, bad_window, memory}
use Rattle.frame_types.specs.ReplyData.{ReplyData}
use Rattle.frame_types.specs.declared.reply.Body.{Body}
use Rattle.frame_types.specs.declared.reply.Body.TheVariants as body
use Rattle.frame_types.specs.declared.reply.Cause.TheVariants as cause
use Rattle.frame_types.specs.declared.request.FrameCause.TheVariants as frame
use Rattle.view_spec.specs.Openings.{Opening, first_opening}
use Rattle.view_spec.specs.Views.{Side, view}
use Rattle.row_batch.specs.declared.batch.Pair.{Pair}
use Rattle.plan_types.specs.declared.plan.Expression.{Expression}
use Rattle.plan_types.specs.declared.plan.Plan.{Plan}
use Rattle.plan_types.specs.declared.tree.Tree.{Tree}
use Rattle.plan_json.specs.declared.words.PlanCause.TheVariants as plan
use Rattle.plan_json.specs.declared.words.PlanPart.TheVariants.{Columns}
use Rattle.hub_spec.specs.Answers.{full_of_singles}
use Rattle.hub_spec.specs.HeldViews.{HeldView, opening_after}
use Rattle.hub_spec.specs.Ports.{numbers_below}
use Rattle.hub_spec.specs.Room.{different}
use Rattle.hub_spec.specs.Histories.{Entry, Choice, plenty, want, losing, answer, past_of, is_allowed, history_after, entry_of}

-- ---- how requests, rows and replies are written here

-- more entries than any history below has
abbrev roomy : ℕ
roomy = 9007199254740991

abbrev by : ℕ → Ask → Choice → Entry
by session request choice = record { session = session; request = request; choice = choice }

-- asked by session 0, with plenty of memory
abbrev asks : Ask → Entry
asks request = by 0 request plenty

abbrev reply : ℕ → ℕ → Body → ReplyData
reply n version answer = record { n = n; version = version; body = answer }

-- rows that are refused, and where
abbrev refused_rows : BatchRefused → Body
refused_rows why = body.Refused (bad_rows why)

abbrev integer_column : List ℕ → ColumnWords
integer_column name = record { name = name; kind = codes "integer" }

abbrev make_table : Ask
make_table = ask.table (integer_column (codes "k") ∷ integer_column (codes "v") ∷ []) (Some (codes "k")) None

abbrev k_and_v : ℤ → ℤ → RawData
k_and_v k v = raw_map (raw_member (codes "k") (raw_int k) (raw_member (codes "v") (raw_int v) no_raw_members))

abbrev only_k : ℤ → RawData
only_k k = raw_map (raw_member (codes "k") (raw_int k) no_raw_members)

abbrev one_row : RawData → RawData
one_row r = raw_list (raw_item r no_raw_items)

abbrev two_rows : RawData → RawData → RawData
two_rows a b = raw_list (raw_item a (raw_item b no_raw_items))

abbrev update : RawData → Ask
update rows = ask.update 0 rows

abbrev with_member : List ℕ → RawData → RawData
with_member name d = raw_map (raw_member name d no_raw_members)

abbrev open_all : Ask
open_all = ask.open_view (raw_map no_raw_members) 10

-- the rows by their values of `k`, side by side
abbrev split_by_k : RawData
split_by_k = with_member (codes "split_by") (raw_list (raw_item (raw_words (codes "k")) no_raw_items))

abbrev header : List HeaderColumn
header = record { text = codes "k"; kind = Integer } ∷ record { text = codes "v"; kind = Integer } ∷ []

abbrev shown_row : ℤ → ℤ → ShownRow
shown_row k v = record { key = Row (Int k); mark = false; cells = (codes "k", Whole k) ∷ (codes "v", Whole v) ∷ [] }

abbrev shown_v : ℤ → ℤ → ShownRow
shown_v k v = record { key = Row (Int k); mark = false; cells = (codes "v", Whole v) ∷ [] }

abbrev shows : List ShownRow → Shown
shows rows = record { header = header; rows = rows }

-- two rows whose values of `k` are 1 and 2, each under its own
abbrev split_header : List HeaderColumn
split_header =
    record { text = codes "1|k"; kind = Integer } ∷ record { text = codes "1|v"; kind = Integer }
    ∷ record { text = codes "2|k"; kind = Integer } ∷ record { text = codes "2|v"; kind = Integer } ∷ []

abbrev first_split : ℤ → ShownRow
first_split v = record { key = Row (Int (pos 1)); mark = false; cells = (codes "1|k", Whole (pos 1)) ∷ (codes "1|v", Whole v) ∷ [] }

abbrev second_split : ℤ → ShownRow
second_split v = record { key = Row (Int (pos 2)); mark = false; cells = (codes "2|k", Whole (pos 2)) ∷ (codes "2|v", Whole v) ∷ [] }

-- ---- a table, a port, a batch of two rows, applied, and a view of them by key

abbrev with_table : List Entry
with_table = asks make_table ∷ []

abbrev with_port : List Entry
with_port = asks ask.port ∷ with_table

abbrev with_batch : List Entry
with_batch = asks (update (two_rows (k_and_v (pos 2) (pos 5)) (k_and_v (pos 1) (pos 7)))) ∷ with_port

abbrev with_rows : List Entry
with_rows = asks (ask.apply 0) ∷ with_batch

abbrev with_view : List Entry
with_view = asks open_all ∷ with_rows

pub first_table : answer roomy [] (asks make_table) ≡ reply 1 0 body.Table
first_table = refl

pub first_port : answer roomy with_table (asks ask.port) ≡ reply 2 0 (body.Port 0)
first_port = refl

pub first_queued : answer roomy with_port (asks (update (two_rows (k_and_v (pos 2) (pos 5)) (k_and_v (pos 1) (pos 7))))) ≡ reply 3 0 (body.Queued 0 1)
first_queued = refl

pub first_applied : answer roomy with_batch (asks (ask.apply 0)) ≡ reply 4 1 (body.Applied 0 1)
first_applied = refl

pub first_opened : answer roomy with_rows (asks open_all) ≡ reply 5 1 (body.Opened 0 (shows (shown_row (pos 1) (pos 7) ∷ shown_row (pos 2) (pos 5) ∷ [])) 0)
unfolding value_order
first_opened = refl

-- ---- what a take answers

abbrev take : ℕ → Ask
take view = ask.take view false

abbrev no_value : ℤ → ShownRow
no_value k = record { key = Row (Int k); mark = false; cells = (codes "k", Whole k) ∷ [] }

abbrev marks : ℕ → Mark
marks version = record { version = version; edit = 0 }

-- a delta of view 0 from one version to another that sends no header
abbrev delta : ℕ → ℕ → List ViewKey → List Put → Body
delta start end removed puts = body.Delta (record { «from» = marks start; to = marks end; removed = removed; puts = puts; header = None }) 0

abbrev put : ℕ → ShownRow → Put
put position row = record { position = position; row = row }

-- nothing happened since the opening
pub taken_at_once : answer roomy with_view (asks (take 0)) ≡ reply 6 1 (delta 1 1 [] [])
unfolding value_order
taken_at_once = refl

-- a row that names its key alone changes nothing, and so touches nothing
abbrev with_same_row : List Entry
with_same_row = asks (ask.apply 0) ∷ asks (update (one_row (only_k (pos 1)))) ∷ with_view

pub taken_unchanged : answer roomy with_same_row (asks (take 0)) ≡ reply 8 2 (delta 1 2 [] [])
unfolding value_order
taken_unchanged = refl

-- null is set, and the value is left out
abbrev k_without_v : ℤ → RawData
k_without_v k = raw_map (raw_member (codes "k") (raw_int k) (raw_member (codes "v") raw_null no_raw_members))

abbrev with_null : List Entry
with_null = asks (ask.apply 0) ∷ asks (update (one_row (k_without_v (pos 1)))) ∷ asks (take 0) ∷ with_same_row

pub taken_changed : answer roomy with_null (asks (take 0)) ≡ reply 11 3 (delta 2 3 [] (put 0 (no_value (pos 1)) ∷ []))
unfolding value_order
taken_changed = refl

-- rows that are gone are removed by key, ascending
abbrev with_rows_removed : List Entry
with_rows_removed = asks (ask.apply 0) ∷ asks (ask.remove 0 (raw_list (raw_item (raw_int (pos 2)) (raw_item (raw_int (pos 1)) no_raw_items)))) ∷ with_view

pub taken_removed : answer roomy with_rows_removed (asks (take 0)) ≡ reply 8 2 (delta 1 2 (Row (Int (pos 1)) ∷ Row (Int (pos 2)) ∷ []) [])
unfolding value_order
taken_removed = refl

-- a row that came and went between two takes is neither put nor removed
abbrev with_empty_view : List Entry
with_empty_view = asks open_all ∷ with_port

abbrev with_visitor : List Entry
with_visitor = asks (ask.apply 0) ∷ asks (ask.remove 0 (raw_list (raw_item (raw_int (pos 1)) no_raw_items))) ∷ asks (ask.apply 0)
    ∷ asks (update (one_row (k_and_v (pos 1) (pos 1)))) ∷ with_empty_view

pub taken_after_visit : answer roomy with_visitor (asks (take 0)) ≡ reply 8 2 (delta 0 2 [] [])
unfolding value_order
taken_after_visit = refl

-- a row that changed and changed back is put again
abbrev with_change : ℤ → List Entry → List Entry
with_change v before = asks (ask.apply 0) ∷ asks (update (one_row (k_and_v (pos 1) v))) ∷ before

pub taken_changed_back : answer roomy (with_change (pos 7) (with_change (pos 2) with_view)) (asks (take 0))
    ≡ reply 10 3 (delta 1 3 [] (put 0 (shown_row (pos 1) (pos 7)) ∷ []))
unfolding value_order
taken_changed_back = refl

-- one dirty key is more than the bound 0, and not more than the bound 1
abbrev open_bound : ℕ → Ask
open_bound bound = ask.open_view (raw_map no_raw_members) bound

abbrev with_bounds : List Entry
with_bounds = with_change (pos 1) (asks (open_bound 1) ∷ asks (open_bound 0) ∷ with_port)

pub taken_over_bound : answer roomy with_bounds (asks (take 0)) ≡ reply 7 1 (body.Resync 0 0 (shows (shown_row (pos 1) (pos 1) ∷ [])) 0)
unfolding value_order
taken_over_bound = refl

pub taken_within_bound : answer roomy (asks (take 0) ∷ with_bounds) (asks (take 1))
    ≡ reply 8 1 (body.Delta (record { «from» = marks 0; to = marks 1; removed = []; puts = put 0 (shown_row (pos 1) (pos 1)) ∷ []; header = None }) 1)
unfolding value_order
taken_within_bound = refl

-- `rows` does not move the base
pub taken_after_rows : answer roomy (asks (ask.rows 0 0 9) ∷ with_change (pos 8) with_view) (asks (take 0))
    ≡ reply 9 2 (delta 1 2 [] (put 0 (shown_row (pos 1) (pos 8)) ∷ []))
unfolding value_order
taken_after_rows = refl

pub taken_by_another : answer roomy with_view (by 1 (take 0) plenty) ≡ reply 1 1 (body.Refused no_view)
taken_by_another = refl

pub taken_when_lost : answer roomy (by 0 (ask.apply 0) (losing ((0, 0) ∷ [])) ∷ asks (update (one_row (k_and_v (pos 1) (pos 8)))) ∷ with_view) (asks (take 0))
    ≡ reply 8 2 (body.Refused (view_lost 2))
taken_when_lost = refl

pub taken_when_closed : answer roomy (asks (ask.close 0) ∷ with_view) (asks (take 0)) ≡ reply 7 1 (body.Refused no_view)
taken_when_closed = refl

pub taken_without_table : answer roomy [] (asks (take 0)) ≡ reply 1 0 (body.Refused no_table)
taken_without_table = refl

-- ---- the refusals

pub port_without_table : answer roomy [] (asks ask.port) ≡ reply 1 0 (body.Refused no_table)
port_without_table = refl

pub unread_without_table : answer roomy [] (asks (ask.unread frame.Member)) ≡ reply 1 0 (body.Refused (bad_frame cause.Member))
unread_without_table = refl

pub unread_is_no_json : answer roomy with_rows (asks (ask.unread frame.Json)) ≡ reply 5 1 (body.Refused (bad_frame cause.Json))
unread_is_no_json = refl

pub apply_with_nothing_waiting : answer roomy with_port (asks (ask.apply 0)) ≡ reply 3 0 (body.Refused empty)
apply_with_nothing_waiting = refl

pub apply_after_all_are_applied : answer roomy with_rows (asks (ask.apply 0)) ≡ reply 5 1 (body.Refused empty)
apply_after_all_are_applied = refl

pub second_table : answer roomy with_table (asks make_table) ≡ reply 2 0 (body.Refused table_set)
second_table = refl

pub table_without_columns : answer roomy [] (asks (ask.table [] (Some (codes "k")) None)) ≡ reply 1 0 (body.Refused (bad_schema schema.NoColumns Zero))
table_without_columns = refl

pub second_port : answer roomy with_port (asks ask.port) ≡ reply 3 0 (body.Port 1)
second_port = refl

-- a port that was refused is not the first one
pub port_after_a_refused_one : answer roomy (asks make_table ∷ asks ask.port ∷ []) (asks ask.port) ≡ reply 3 0 (body.Port 0)
port_after_a_refused_one = refl

pub other_port : answer roomy with_batch (asks (ask.apply 1)) ≡ reply 4 0 (body.Refused no_port)
other_port = refl

pub row_without_index : answer roomy with_port (asks (update (one_row (raw_map (raw_member (codes "v") (raw_int (pos 5)) no_raw_members))))) ≡ reply 3 0 (refused_rows (record { cause = row.Index; at = One 0 }))
row_without_index = refl

pub row_of_another_column : answer roomy with_port (asks (update (one_row (raw_map (raw_member (codes "k") (raw_int (pos 5)) (raw_member (codes "w") (raw_int (pos 5)) no_raw_members)))))) ≡ reply 3 0 (refused_rows (record { cause = row.Unknown; at = One 0 }))
row_of_another_column = refl

pub row_with_null : answer roomy with_port (asks (update (one_row (raw_map (raw_member (codes "k") raw_null no_raw_members))))) ≡ reply 3 0 (refused_rows (record { cause = row.Index; at = One 0 }))
row_with_null = refl

pub greatest_cell : answer roomy with_port (asks (update (one_row (k_and_v (pos 9007199254740991) (negsuc 9007199254740990))))) ≡ reply 3 0 (body.Queued 0 1)
greatest_cell = refl

pub cell_too_great : answer roomy with_port (asks (update (one_row (only_k (pos 9007199254740992))))) ≡ reply 3 0 (refused_rows (record { cause = row.Range; at = Two 0 0 }))
cell_too_great = refl

pub cell_too_small : answer roomy with_port (asks (update (one_row (only_k (negsuc 9007199254740991))))) ≡ reply 3 0 (refused_rows (record { cause = row.Range; at = Two 0 0 }))
cell_too_small = refl

abbrev many_rows : ℕ → RawItems
many_rows zero = no_raw_items
many_rows (suc n) = raw_item (only_k (pos 1)) (many_rows n)

pub most_rows_of_a_batch : answer roomy with_port (asks (update (raw_list (many_rows 1024)))) ≡ reply 3 0 (body.Queued 0 1)
most_rows_of_a_batch = refl

pub too_many_rows_of_a_batch : answer roomy with_port (asks (update (raw_list (many_rows 1025)))) ≡ reply 3 0 (refused_rows (record { cause = row.Rows; at = One 1025 }))
too_many_rows_of_a_batch = refl

pub no_rows_are_a_batch : answer roomy with_port (asks (update (raw_list no_raw_items))) ≡ reply 3 0 (body.Queued 0 1)
no_rows_are_a_batch = refl

pub rows_across : answer roomy with_port (asks (update (raw_map no_raw_members))) ≡ reply 3 0 (body.Queued 0 1)
rows_across = refl

pub second_view : answer roomy with_view (asks open_all) ≡ reply 6 1 (body.Opened 0 (shows (shown_row (pos 1) (pos 7) ∷ shown_row (pos 2) (pos 5) ∷ [])) 1)
unfolding value_order
second_view = refl

pub split_plan : answer roomy with_rows (asks (ask.open_view split_by_k 10))
    ≡ reply 5 1 (body.Opened 0 (record { header = split_header; rows = first_split (pos 7) ∷ second_split (pos 5) ∷ [] }) 0)
unfolding value_order digits
split_plan = refl

pub refused_plan_counts_in_its_session
    : answer roomy with_rows (by 1 (ask.open_view (with_member (codes "split_by") raw_null) 10) plenty) ≡ reply 1 1 (body.Refused plan_form)
refused_plan_counts_in_its_session = refl

pub plan_of_no_member : answer roomy with_rows (asks (ask.open_view (with_member (codes "sorts") (raw_list no_raw_items)) 10)) ≡ reply 5 1 (body.Refused plan_form)
plan_of_no_member = refl

pub no_plan : answer roomy with_rows (asks (ask.open_view (raw_list no_raw_items) 10)) ≡ reply 5 1 (body.Refused plan_form)
no_plan = refl

-- what is left out or empty hides nothing
pub plan_without_groups : answer roomy with_rows (asks (ask.open_view (with_member (codes "group_by") (raw_list no_raw_items)) 10))
    ≡ reply 5 1 (body.Opened 0 (shows (shown_row (pos 1) (pos 7) ∷ shown_row (pos 2) (pos 5) ∷ [])) 0)
unfolding value_order
plan_without_groups = refl

pub plan_without_splits : answer roomy with_rows (asks (ask.open_view (with_member (codes "split_by") (raw_list no_raw_items)) 10))
    ≡ reply 5 1 (body.Opened 0 (shows (shown_row (pos 1) (pos 7) ∷ shown_row (pos 2) (pos 5) ∷ [])) 0)
unfolding value_order
plan_without_splits = refl

pub plan_of_an_unknown_column : answer roomy with_rows (asks (ask.open_view (with_member (codes "columns") (raw_list (raw_item (raw_words (codes "x")) no_raw_items))) 10))
    ≡ reply 5 1 (body.Refused (bad_plan Columns plan.Unknown (One 0)))
plan_of_an_unknown_column = refl

pub view_not_given : answer roomy with_view (asks (ask.rows 1 0 2)) ≡ reply 6 1 (body.Refused no_view)
view_not_given = refl

-- a view of another session is none of this session, whose requests are counted apart
pub view_of_another_session : answer roomy with_view (by 1 (ask.rows 0 0 2) plenty) ≡ reply 1 1 (body.Refused no_view)
view_of_another_session = refl

-- ---- windows

pub whole_window : answer roomy with_view (asks (ask.rows 0 0 2)) ≡ reply 6 1 (body.Rows 0 0 (shows (shown_row (pos 1) (pos 7) ∷ shown_row (pos 2) (pos 5) ∷ [])) 2 0)
unfolding value_order
whole_window = refl

pub last_row_alone : answer roomy with_view (asks (ask.rows 0 1 2)) ≡ reply 6 1 (body.Rows 0 1 (shows (shown_row (pos 2) (pos 5) ∷ [])) 2 0)
unfolding value_order
last_row_alone = refl

pub window_over_the_end : answer roomy with_view (asks (ask.rows 0 1 9)) ≡ reply 6 1 (body.Rows 0 1 (shows (shown_row (pos 2) (pos 5) ∷ [])) 2 0)
unfolding value_order
window_over_the_end = refl

pub window_past_the_end : answer roomy with_view (asks (ask.rows 0 7 9)) ≡ reply 6 1 (body.Rows 0 7 (shows []) 2 0)
unfolding value_order
window_past_the_end = refl

pub empty_window : answer roomy with_view (asks (ask.rows 0 1 1)) ≡ reply 6 1 (body.Rows 0 1 (shows []) 2 0)
unfolding value_order
empty_window = refl

pub window_backwards : answer roomy with_view (asks (ask.rows 0 2 1)) ≡ reply 6 1 (body.Refused (bad_window 2 1))
window_backwards = refl

-- ---- batches

-- a view shows the rows as they are when it is asked: a key that stands in two rows of a batch is patched twice
pub key_twice_in_a_batch : answer roomy (asks (ask.apply 0) ∷ asks (update (two_rows (k_and_v (pos 3) (pos 8)) (k_and_v (pos 3) (pos 9)))) ∷ with_view) (asks (ask.rows 0 0 9))
    ≡ reply 8 2 (body.Rows 0 0 (shows (shown_row (pos 1) (pos 7) ∷ shown_row (pos 2) (pos 5) ∷ shown_row (pos 3) (pos 9) ∷ [])) 3 0)
unfolding value_order
key_twice_in_a_batch = refl

-- a column that is left out keeps its cell, also the one that the same batch set
pub left_out_column : answer roomy (asks (ask.apply 0) ∷ asks (update (two_rows (k_and_v (pos 2) (pos 6)) (only_k (pos 2)))) ∷ with_view) (asks (ask.rows 0 0 9))
    ≡ reply 8 2 (body.Rows 0 0 (shows (shown_row (pos 1) (pos 7) ∷ shown_row (pos 2) (pos 6) ∷ [])) 2 0)
unfolding value_order
left_out_column = refl

-- in a new row it is null, which is not shown
pub left_out_in_a_new_row : answer roomy (asks (ask.apply 0) ∷ asks (update (one_row (only_k (negsuc 0)))) ∷ with_view) (asks (ask.rows 0 0 1))
    ≡ reply 8 2 (body.Rows 0 0 (shows (record { key = Row (Int (negsuc 0)); mark = false; cells = (codes "k", Whole (negsuc 0)) ∷ [] } ∷ [])) 3 0)
unfolding value_order
left_out_in_a_new_row = refl

-- a batch that waits is not shown, and the oldest is applied first
abbrev two_waiting : List Entry
two_waiting = asks (update (one_row (k_and_v (pos 1) (pos 20)))) ∷ asks (update (one_row (k_and_v (pos 1) (pos 10)))) ∷ with_view

pub waiting_is_not_shown : answer roomy two_waiting (asks (ask.rows 0 0 1)) ≡ reply 8 1 (body.Rows 0 0 (shows (shown_row (pos 1) (pos 7) ∷ [])) 2 0)
unfolding value_order
waiting_is_not_shown = refl

pub next_seq : answer roomy two_waiting (asks (update (raw_list no_raw_items))) ≡ reply 8 1 (body.Queued 0 4)
next_seq = refl

pub oldest_is_applied : answer roomy two_waiting (asks (ask.apply 0)) ≡ reply 8 2 (body.Applied 0 2)
oldest_is_applied = refl

pub oldest_was_applied : answer roomy (asks (ask.apply 0) ∷ two_waiting) (asks (ask.rows 0 0 1)) ≡ reply 9 2 (body.Rows 0 0 (shows (shown_row (pos 1) (pos 10) ∷ [])) 2 0)
unfolding value_order
oldest_was_applied = refl

-- ---- room

-- so many batches, of so many rows each, behind a history
abbrev queued : ℕ → ℕ → List Entry → List Entry
queued zero rows h = h
queued (suc n) rows h = asks (update (raw_list (many_rows rows))) ∷ queued n rows h

pub sixty_fourth_waits : answer roomy (queued 63 0 with_port) (asks (update (raw_list no_raw_items))) ≡ reply 66 0 (body.Queued 0 64)
sixty_fourth_waits = refl

pub sixty_fifth_does_not : answer roomy (queued 64 0 with_port) (asks (update (raw_list no_raw_items))) ≡ reply 67 0 (body.Refused port_full)
sixty_fifth_does_not = refl

pub bad_rows_on_a_full_port : answer roomy (queued 64 0 with_port) (asks (update (one_row (only_k (pos 9007199254740992))))) ≡ reply 67 0 (refused_rows (record { cause = row.Range; at = Two 0 0 }))
bad_rows_on_a_full_port = refl

-- a table without an index: one live row and 64,512 that wait
abbrev with_free_port : List Entry
with_free_port = asks ask.port ∷ asks (ask.table (integer_column (codes "k") ∷ []) None None) ∷ []

abbrev nearly_full : List Entry
nearly_full = queued 63 1024 (asks (ask.apply 0) ∷ queued 1 1 with_free_port)

pub rows_up_to_the_limit : answer roomy nearly_full (asks (update (raw_list (many_rows 1023)))) ≡ reply 68 1 (body.Queued 0 65)
rows_up_to_the_limit = refl

pub one_row_too_many : answer roomy nearly_full (asks (update (raw_list (many_rows 1024)))) ≡ reply 68 1 (body.Refused (table_full 65537))
one_row_too_many = refl

-- ---- a column of another type reads no whole number

abbrev dates : SchemaData
dates = record { columns = record { name = codes "v"; kind = kind.Date } ∷ []; keeping = Free }

pub number_for_a_date : read_rows dates (one_row (raw_map (raw_member (codes "v") (raw_int (pos 5)) no_raw_members))) ≡ Err (record { cause = row.BadType; at = Two 0 0 })
number_for_a_date = refl

-- ---- different keys

pub three_are_different : different (Int (pos 1) ∷ Int (pos 2) ∷ Int (pos 1) ∷ Int (pos 3) ∷ []) ≡ 3
three_are_different = refl

-- ---- ports that close

abbrev closing : List Entry
closing = asks (ask.close_port 0) ∷ asks (ask.clear 0) ∷ with_port

pub a_port_closes : answer roomy (asks (ask.clear 0) ∷ with_port) (asks (ask.close_port 0)) ≡ reply 4 0 (body.PortClosed 0)
a_port_closes = refl

pub closed_takes_no_more : answer roomy closing (asks (ask.clear 0)) ≡ reply 5 0 (body.Refused port_closed)
closed_takes_no_more = refl

pub closed_is_closed : answer roomy closing (asks (ask.close_port 0)) ≡ reply 5 0 (body.Refused port_closed)
closed_is_closed = refl

pub closed_is_applied : answer roomy closing (asks (ask.apply 0)) ≡ reply 5 1 (body.Applied 0 1)
closed_is_applied = refl

pub drained_is_empty : answer roomy (asks (ask.apply 0) ∷ closing) (asks (ask.apply 0)) ≡ reply 6 1 (body.Refused empty)
drained_is_empty = refl

pub next_port_is_new : answer roomy closing (asks ask.port) ≡ reply 5 0 (body.Port 1)
next_port_is_new = refl

-- so many ports behind a table
abbrev many_ports : ℕ → List Entry
many_ports zero = with_table
many_ports (suc n) = asks ask.port ∷ many_ports n

pub sixteen_ports : answer roomy (many_ports 15) (asks ask.port) ≡ reply 17 0 (body.Port 15)
sixteen_ports = refl

pub seventeen_ports : answer roomy (many_ports 16) (asks ask.port) ≡ reply 18 0 (body.Refused too_many_ports)
seventeen_ports = refl

pub one_closed_and_one_more : answer roomy (asks (ask.close_port 3) ∷ many_ports 16) (asks ask.port) ≡ reply 19 0 (body.Port 16)
one_closed_and_one_more = refl

-- a closed port keeps its place until its last batch is applied
abbrev one_closing : List Entry
one_closing = asks (ask.close_port 3) ∷ asks (ask.clear 3) ∷ many_ports 16

pub closed_keeps_its_place : answer roomy one_closing (asks ask.port) ≡ reply 20 0 (body.Refused too_many_ports)
closed_keeps_its_place = refl

pub drained_leaves_its_place : answer roomy (asks (ask.apply 3) ∷ one_closing) (asks ask.port) ≡ reply 21 1 (body.Port 16)
drained_leaves_its_place = refl

-- ---- batches of other kinds

pub keys_without_an_index : answer roomy with_free_port (asks (ask.remove 0 (raw_list no_raw_items))) ≡ reply 3 0 (body.Refused not_indexed)
keys_without_an_index = refl

pub bad_keys_without_an_index : answer roomy with_free_port (asks (ask.remove 0 (raw_list (raw_item raw_null no_raw_items)))) ≡ reply 3 0 (body.Refused not_indexed)
bad_keys_without_an_index = refl

pub keys_are_removed : answer roomy (asks (ask.apply 0) ∷ asks (ask.remove 0 (raw_list (raw_item (raw_int (pos 1)) no_raw_items))) ∷ with_view) (asks (ask.rows 0 0 9))
    ≡ reply 8 2 (body.Rows 0 0 (shows (shown_row (pos 2) (pos 5) ∷ [])) 1 0)
unfolding value_order
keys_are_removed = refl

pub all_are_replaced : answer roomy (asks (ask.apply 0) ∷ asks (ask.replace 0 (one_row (k_and_v (pos 3) (pos 4)))) ∷ with_view) (asks (ask.rows 0 0 9))
    ≡ reply 8 2 (body.Rows 0 0 (shows (shown_row (pos 3) (pos 4) ∷ [])) 1 0)
unfolding value_order
all_are_replaced = refl

-- ---- views of sessions

pub a_view_closes : answer roomy with_view (asks (ask.close 0)) ≡ reply 6 1 (body.Closed 0)
a_view_closes = refl

pub its_number_is_not_used_again : answer roomy (asks (ask.close 0) ∷ with_view) (asks open_all) ≡ reply 7 1 (body.Opened 0 (shows (shown_row (pos 1) (pos 7) ∷ shown_row (pos 2) (pos 5) ∷ [])) 1)
unfolding value_order
its_number_is_not_used_again = refl

pub another_session_closes_none : answer roomy with_view (by 1 (ask.close 0) plenty) ≡ reply 1 1 (body.Refused no_view)
another_session_closes_none = refl

pub another_sessions_view_stays : answer roomy (by 1 (ask.close 0) plenty ∷ by 1 open_all plenty ∷ with_view) (asks (ask.close 0)) ≡ reply 6 1 (body.Closed 0)
another_sessions_view_stays = refl

pub a_session_leaves : answer roomy (asks open_all ∷ with_view) (asks ask.leave) ≡ reply 7 1 (body.Left 2)
a_session_leaves = refl

pub others_stay : answer roomy (by 1 ask.leave plenty ∷ with_view) (asks (ask.close 0)) ≡ reply 6 1 (body.Closed 0)
others_stay = refl

pub leaving_needs_no_table : answer roomy [] (asks ask.leave) ≡ reply 1 0 (body.Left 0)
leaving_needs_no_table = refl

-- so many views behind a table
abbrev many_views : ℕ → List Entry
many_views zero = with_table
many_views (suc n) = by n open_all plenty ∷ many_views n

pub seventeen_views : answer roomy (many_views 16) (asks open_all) ≡ reply 3 0 (body.Refused too_many_views)
seventeen_views = refl

pub told_of_the_table : answer roomy with_batch (asks ask.info) ≡ reply 4 0 (body.Info (integer_column (codes "k") ∷ integer_column (codes "v") ∷ []) (Some (codes "k")) None 0 1)
told_of_the_table = refl

pub no_want_of_a_close : is_allowed roomy (past_of roomy with_view) 0 (ask.close 0) want ≡ false
no_want_of_a_close = refl

pub no_want_of_a_closed_port : is_allowed roomy (past_of roomy with_port) 0 (ask.close_port 0) want ≡ false
no_want_of_a_closed_port = refl

pub no_want_of_leaving : is_allowed roomy (past_of roomy with_view) 0 ask.leave want ≡ false
no_want_of_leaving = refl

-- ---- edits

-- a plan that sorts by `v`
abbrev sorted_by_v : List ℕ → RawData
sorted_by_v direction =
    with_member (codes "sort") (raw_list (raw_item (raw_list (raw_item (raw_words (codes "v")) (raw_item (raw_words direction) no_raw_items))) no_raw_items))

abbrev only_columns : RawItems → RawData
only_columns names = with_member (codes "columns") (raw_list names)

abbrev edits : RawData → Entry
edits plan = asks (ask.edit_view 0 plan)

-- a view that sorts two rows of one value by it, the least first
abbrev with_sorted_view : List Entry
with_sorted_view = asks (ask.open_view (sorted_by_v (codes "asc")) 10) ∷ asks (ask.apply 0)
    ∷ asks (update (two_rows (k_and_v (pos 1) (pos 5)) (k_and_v (pos 2) (pos 5)))) ∷ with_port

abbrev edited_marks : ℕ → ℕ → Mark
edited_marks version edit = record { version = version; edit = edit }

-- a delta of view 0 at version 1, from its opening to so many edits later
abbrev delta_of_edits : ℕ → List Put → Option (List HeaderColumn) → Body
delta_of_edits edit puts columns = body.Delta (record { «from» = marks 1; to = edited_marks 1 edit; removed = []; puts = puts; header = columns }) 0

pub edit_is_counted : answer roomy with_sorted_view (edits (sorted_by_v (codes "desc"))) ≡ reply 6 1 (body.Edited 1 0)
edit_is_counted = refl

-- the rows stand as before, but at other places: by the greatest value
pub edit_of_a_sort : answer roomy (edits (sorted_by_v (codes "desc")) ∷ with_sorted_view) (asks (take 0))
    ≡ reply 7 1 (delta_of_edits 1 (put 0 (shown_row (pos 1) (pos 5)) ∷ put 1 (shown_row (pos 2) (pos 5)) ∷ []) None)
unfolding value_order
edit_of_a_sort = refl

-- the same plan again touches nothing, and is an edit all the same
pub edit_that_changes_nothing : answer roomy (edits (sorted_by_v (codes "asc")) ∷ with_sorted_view) (asks (take 0)) ≡ reply 7 1 (delta_of_edits 1 [] None)
unfolding value_order
edit_that_changes_nothing = refl

-- other columns are another header and other cells
pub edit_of_columns : answer roomy (edits (only_columns (raw_item (raw_words (codes "v")) no_raw_items)) ∷ with_view) (asks (take 0))
    ≡ reply 7 1 (delta_of_edits 1 (put 0 (shown_v (pos 1) (pos 7)) ∷ put 1 (shown_v (pos 2) (pos 5)) ∷ []) (Some (record { text = codes "v"; kind = Integer } ∷ [])))
unfolding value_order
edit_of_columns = refl

-- between two takes a view may be edited there and back: what was touched is told again, the header too
pub edit_there_and_back : answer roomy (edits (raw_map no_raw_members) ∷ edits (only_columns (raw_item (raw_words (codes "v")) no_raw_items)) ∷ with_view) (asks (take 0))
    ≡ reply 8 1 (delta_of_edits 2 (put 0 (shown_row (pos 1) (pos 7)) ∷ put 1 (shown_row (pos 2) (pos 5)) ∷ []) (Some header))
unfolding value_order
edit_there_and_back = refl

-- a filter drops a row; the other stands as before and is not touched, though the plan is another
abbrev filtered : List ℕ → List ℕ → ℤ → RawData
filtered column operator least =
    with_member (codes "filter") (raw_list (raw_item (raw_list (raw_item (raw_words column) (raw_item (raw_words operator) (raw_item (raw_int least) no_raw_items)))) no_raw_items))

pub edit_of_a_filter : answer roomy (edits (filtered (codes "v") (codes ">") (pos 5)) ∷ with_view) (asks (take 0))
    ≡ reply 7 1 (body.Delta (record { «from» = marks 1; to = edited_marks 1 1; removed = Row (Int (pos 2)) ∷ []; puts = []; header = None }) 0)
unfolding value_order
edit_of_a_filter = refl

-- the columns in another order are another header over the same cells
pub edit_of_the_header_alone
    : answer roomy (edits (only_columns (raw_item (raw_words (codes "v")) (raw_item (raw_words (codes "k")) no_raw_items))) ∷ asks (open_bound 0) ∷ with_rows) (asks (take 0))
    ≡ reply 7 1 (delta_of_edits 1 [] (Some (record { text = codes "v"; kind = Integer } ∷ record { text = codes "k"; kind = Integer } ∷ [])))
unfolding value_order
edit_of_the_header_alone = refl

-- whether the greatest value or the greatest size comes first is another place, and so is a sort more
pub edit_to_sizes : answer roomy (edits (sorted_by_v (codes "asc abs")) ∷ with_sorted_view) (asks (take 0)) ≡ reply 7 1 (delta_of_edits 1 [] None)
unfolding value_order
edit_to_sizes = refl

pub edit_to_a_sort : answer roomy (edits (sorted_by_v (codes "desc")) ∷ with_view) (asks (take 0))
    ≡ reply 7 1 (delta_of_edits 1 (put 0 (shown_row (pos 1) (pos 7)) ∷ put 1 (shown_row (pos 2) (pos 5)) ∷ []) None)
unfolding value_order
edit_to_a_sort = refl

-- more keys are touched than the bound, which stays
abbrev edit_over_bound : List Entry
edit_over_bound = edits (only_columns (raw_item (raw_words (codes "v")) no_raw_items)) ∷ asks (open_bound 1) ∷ with_rows

pub edit_past_the_bound : answer roomy edit_over_bound (asks (take 0))
    ≡ reply 7 1 (body.Resync 1 1 (record { header = record { text = codes "v"; kind = Integer } ∷ []; rows = shown_v (pos 1) (pos 7) ∷ shown_v (pos 2) (pos 5) ∷ [] }) 0)
unfolding value_order
edit_past_the_bound = refl

-- an edit and a batch between two takes
pub edit_and_batch : answer roomy (with_change (pos 8) (edits (only_columns (raw_item (raw_words (codes "v")) no_raw_items)) ∷ with_view)) (asks (take 0))
    ≡ reply 9 2 (body.Delta (record { «from» = marks 1; to = edited_marks 2 1; removed = []; puts = put 0 (shown_v (pos 1) (pos 8)) ∷ put 1 (shown_v (pos 2) (pos 5)) ∷ []; header = Some (record { text = codes "v"; kind = Integer } ∷ []) }) 0)
unfolding value_order
edit_and_batch = refl

-- other views stay, of this session and of others
pub edit_of_one_view : answer roomy (edits (sorted_by_v (codes "desc")) ∷ asks open_all ∷ with_view) (asks (take 1))
    ≡ reply 8 1 (body.Delta (record { «from» = marks 1; to = marks 1; removed = []; puts = []; header = None }) 1)
unfolding value_order
edit_of_one_view = refl

pub edit_of_one_session : answer roomy (by 1 (ask.edit_view 0 (sorted_by_v (codes "desc"))) plenty ∷ by 1 open_all plenty ∷ with_view) (asks (take 0)) ≡ reply 6 1 (delta 1 1 [] [])
unfolding value_order
edit_of_one_session = refl

-- after want of memory all is as before
pub edit_after_want : answer roomy (by 0 (ask.edit_view 0 (sorted_by_v (codes "desc"))) want ∷ with_view) (edits (raw_map no_raw_members)) ≡ reply 7 1 (body.Edited 1 0)
edit_after_want = refl

pub take_after_want : answer roomy (by 0 (ask.edit_view 0 (sorted_by_v (codes "desc"))) want ∷ with_view) (asks (take 0)) ≡ reply 7 1 (delta 1 1 [] [])
unfolding value_order
take_after_want = refl

-- the next delta is from the mark of the last
pub take_after_an_edit_was_taken : answer roomy (asks (take 0) ∷ edits (raw_map no_raw_members) ∷ with_view) (asks (take 0))
    ≡ reply 8 1 (body.Delta (record { «from» = edited_marks 1 1; to = edited_marks 1 1; removed = []; puts = []; header = None }) 0)
unfolding value_order
take_after_an_edit_was_taken = refl

pub rows_tell_the_edit : answer roomy (edits (sorted_by_v (codes "asc")) ∷ with_view) (asks (ask.rows 0 0 1)) ≡ reply 7 1 (body.Rows 1 0 (shows (shown_row (pos 2) (pos 5) ∷ [])) 2 0)
unfolding value_order
rows_tell_the_edit = refl

pub edit_without_table : answer roomy [] (edits (raw_map no_raw_members)) ≡ reply 1 0 (body.Refused no_table)
edit_without_table = refl

pub edit_of_no_view : answer roomy with_rows (edits raw_null) ≡ reply 5 1 (body.Refused no_view)
edit_of_no_view = refl

pub edit_by_another : answer roomy with_view (by 1 (ask.edit_view 0 raw_null) plenty) ≡ reply 1 1 (body.Refused no_view)
edit_by_another = refl

-- splits are columns of another text, so each cell stands at another place
pub edit_to_splits : answer roomy (edits split_by_k ∷ with_view) (asks (take 0))
    ≡ reply 7 1 (delta_of_edits 1 (put 0 (first_split (pos 7)) ∷ put 1 (second_split (pos 5)) ∷ []) (Some split_header))
unfolding value_order digits
edit_to_splits = refl

pub edit_by_no_plan : answer roomy with_view (edits raw_null) ≡ reply 6 1 (body.Refused plan_form)
edit_by_no_plan = refl

-- a refused edit leaves the view and its number
pub take_after_a_refused_edit : answer roomy (edits (only_columns (raw_item (raw_words (codes "x")) no_raw_items)) ∷ with_view) (asks (take 0)) ≡ reply 7 1 (delta 1 1 [] [])
unfolding value_order
take_after_a_refused_edit = refl

pub edit_after_a_refused_one : answer roomy (edits (only_columns (raw_item (raw_words (codes "x")) no_raw_items)) ∷ with_view) (edits (raw_map no_raw_members)) ≡ reply 7 1 (body.Edited 1 0)
edit_after_a_refused_one = refl

-- an opening stays where the plans group by the same names in the same order, whatever numbers their columns have
abbrev grouped : List ℕ → List Expression → Plan
grouped columns expressions = record {
  columns = [];
  group_by = columns;
  split_by = [];
  aggregates = [];
  filters = record { list = []; every = true };
  sorts = [];
  expressions = expressions;
}

abbrev computed : List ℕ → Tree → Expression
computed name tree = record { name = name; kind = kind.Integer; tree = tree }

abbrev all_closed : Opening
all_closed = record { depth = 0; singles = [] }

abbrev opened_after : Plan → Plan → Opening
opened_after before after = opening_after (record { name = codes "k"; kind = kind.Integer } ∷ record { name = codes "v"; kind = kind.Integer } ∷ []) before after all_closed

pub opening_of_the_same_groups : (tree : Tree)
    → opened_after (grouped (2 ∷ []) (computed (codes "m") tree ∷ [])) (grouped (3 ∷ []) (computed (codes "a") tree ∷ computed (codes "m") tree ∷ [])) ≡ all_closed
opening_of_the_same_groups tree = refl

pub opening_of_other_groups : (tree : Tree)
    → opened_after (grouped (2 ∷ []) (computed (codes "m") tree ∷ [])) (grouped (2 ∷ []) (computed (codes "a") tree ∷ [])) ≡ record { depth = 1; singles = [] }
opening_of_other_groups tree = refl

pub opening_of_another_order : opened_after (grouped (0 ∷ 1 ∷ []) []) (grouped (1 ∷ 0 ∷ []) []) ≡ record { depth = 2; singles = [] }
opening_of_another_order = refl

-- ---- groups that open and close

-- `v` in sum, for each value of a column
abbrev by_column : List ℕ → RawData
by_column name = raw_map (raw_member (codes "columns") (raw_list (raw_item (raw_words (codes "v")) no_raw_items))
    (raw_member (codes "group_by") (raw_list (raw_item (raw_words name) no_raw_items)) no_raw_members))

abbrev with_groups : List Entry
with_groups = asks (ask.open_view (by_column (codes "k")) 10) ∷ with_rows

abbrev group_row : List Cell → Bool → ℤ → ShownRow
group_row path mark sum = record { key = Group path; mark = mark; cells = (codes "v", Whole sum) ∷ [] }

abbrev sums : List ShownRow → Shown
sums rows = record { header = record { text = codes "v"; kind = Integer } ∷ []; rows = rows }

abbrev one : List Cell
one = Int (pos 1) ∷ []

abbrev two : List Cell
two = Int (pos 2) ∷ []

abbrev three : List Cell
three = Int (pos 3) ∷ []

-- the total comes first
abbrev all_open : Shown
all_open = sums (group_row [] true (pos 12) ∷ group_row one false (pos 7) ∷ group_row two false (pos 5) ∷ [])

abbrev total_alone : Shown
total_alone = sums (group_row [] false (pos 12) ∷ [])

pub groups_opened : answer roomy with_rows (asks (ask.open_view (by_column (codes "k")) 10)) ≡ reply 5 1 (body.Opened 0 all_open 0)
unfolding value_order
groups_opened = refl

abbrev with_total : List Entry
with_total = asks (ask.depth 0 0) ∷ with_groups

pub depth_is_counted : answer roomy with_groups (asks (ask.depth 0 0)) ≡ reply 6 1 (body.Edited 1 0)
depth_is_counted = refl

pub depth_of_none : answer roomy with_total (asks (ask.rows 0 0 9)) ≡ reply 7 1 (body.Rows 1 0 total_alone 1 0)
unfolding value_order
depth_of_none = refl

-- the groups are gone, and the total is put for its mark alone
pub depth_is_told : answer roomy with_total (asks (take 0))
    ≡ reply 7 1 (body.Delta (record { «from» = marks 1; to = edited_marks 1 1; removed = Group one ∷ Group two ∷ []; puts = put 0 (group_row [] false (pos 12)) ∷ []; header = None }) 0)
unfolding value_order
depth_is_told = refl

-- the total is opened alone, and closed alone
pub expand_is_counted : answer roomy with_total (asks (ask.expand 0 [])) ≡ reply 7 1 (body.Edited 2 0)
unfolding value_order
expand_is_counted = refl

pub expand_of_the_total : answer roomy (asks (ask.expand 0 []) ∷ with_total) (asks (ask.rows 0 0 9)) ≡ reply 8 1 (body.Rows 2 0 all_open 3 0)
unfolding value_order
expand_of_the_total = refl

pub collapse_of_the_total : answer roomy (asks (ask.collapse 0 []) ∷ with_groups) (asks (ask.rows 0 0 9)) ≡ reply 7 1 (body.Rows 1 0 total_alone 1 0)
unfolding value_order
collapse_of_the_total = refl

-- a depth forgets what was closed one by one
pub depth_forgets : answer roomy (asks (ask.depth 0 1) ∷ asks (ask.collapse 0 []) ∷ with_groups) (asks (ask.rows 0 0 9)) ≡ reply 8 1 (body.Rows 2 0 all_open 3 0)
unfolding value_order
depth_forgets = refl

pub expand_of_no_group : answer roomy with_groups (asks (ask.expand 0 three)) ≡ reply 6 1 (body.Refused no_row)
unfolding value_order
expand_of_no_group = refl

-- a group that isn't shown is none
pub expand_of_a_hidden_group : answer roomy with_total (asks (ask.expand 0 one)) ≡ reply 7 1 (body.Refused no_row)
unfolding value_order
expand_of_a_hidden_group = refl

-- below a path of all group columns lies no group
pub expand_of_a_whole_path : answer roomy with_groups (asks (ask.expand 0 one)) ≡ reply 6 1 (body.Refused not_a_group)
unfolding value_order
expand_of_a_whole_path = refl

pub collapse_of_a_whole_path : answer roomy with_groups (asks (ask.collapse 0 one)) ≡ reply 6 1 (body.Refused not_a_group)
unfolding value_order
collapse_of_a_whole_path = refl

-- a view without groups has an opening all the same, and no group rows
pub depth_of_a_flat_view : answer roomy with_view (asks (ask.depth 0 3)) ≡ reply 6 1 (body.Edited 1 0)
depth_of_a_flat_view = refl

pub expand_in_a_flat_view : answer roomy with_view (asks (ask.expand 0 [])) ≡ reply 6 1 (body.Refused no_row)
unfolding value_order
expand_in_a_flat_view = refl

pub depth_without_table : answer roomy [] (asks (ask.depth 0 1)) ≡ reply 1 0 (body.Refused no_table)
depth_without_table = refl

pub depth_of_no_view : answer roomy with_rows (asks (ask.depth 0 1)) ≡ reply 5 1 (body.Refused no_view)
depth_of_no_view = refl

pub expand_by_another : answer roomy with_groups (by 1 (ask.expand 0 []) plenty) ≡ reply 1 1 (body.Refused no_view)
expand_by_another = refl

-- so many groups that were opened one by one, in the order of their paths
abbrev singles : ℕ → List (List Cell × Bool)
singles zero = []
singles (suc n) = (Int (negsuc n) ∷ [], true) ∷ singles n

abbrev with_singles : ℕ → Option HeldView
with_singles n = Some (record {
  session = 0;
  number = 0;
  plan = grouped (0 ∷ []) [];
  opening = record { depth = 0; singles = singles n };
  bound = 0;
  edit = 0;
  lost = None;
})

pub last_single : full_of_singles (with_singles 4095) one ≡ None
last_single = refl

pub single_too_many : full_of_singles (with_singles 4096) one ≡ Some too_many_open
single_too_many = refl

-- one that was opened before may be changed all the same
pub single_again : full_of_singles (with_singles 4096) (Int (negsuc 7) ∷ []) ≡ None
single_again = refl

-- an edit that groups by the same names keeps the opening, and by others drops it
pub edit_keeps_the_opening : answer roomy (edits (by_column (codes "k")) ∷ with_total) (asks (ask.rows 0 0 9)) ≡ reply 8 1 (body.Rows 2 0 total_alone 1 0)
unfolding value_order
edit_keeps_the_opening = refl

pub edit_drops_the_opening : answer roomy (edits (by_column (codes "v")) ∷ with_total) (asks (ask.rows 0 0 9))
    ≡ reply 8 1 (body.Rows 2 0 (sums (group_row [] true (pos 12) ∷ group_row (Int (pos 5) ∷ []) false (pos 5) ∷ group_row (Int (pos 7) ∷ []) false (pos 7) ∷ [])) 3 0)
unfolding value_order
edit_drops_the_opening = refl

-- ---- slots and running numbers

abbrev integers : Keeping → SchemaData
integers keeping = record { columns = record { name = codes "v"; kind = kind.Integer } ∷ []; keeping = keeping }

abbrev sets : ℤ → List PatchCell
sets v = Set (Int v) ∷ []

abbrev five : List (List PatchCell)
five = sets (pos 0) ∷ sets (pos 1) ∷ sets (pos 2) ∷ sets (pos 3) ∷ sets (pos 4) ∷ []

-- all columns and all rows, by key
abbrev whole_plan : SchemaData → Plan
whole_plan schema = record {
  columns = numbers_below (length schema.columns);
  group_by = [];
  split_by = [];
  aggregates = [];
  filters = record { list = []; every = true };
  sorts = [];
  expressions = [];
}

abbrev all_of : SchemaData → List Pair → Side
all_of schema pairs = record { columns = schema.columns; plan = whole_plan schema; opening = first_opening (whole_plan schema); pairs = pairs }

-- in three slots the fourth row takes the place of the first
pub three_slots : (view (all_of (integers (Limited 3)) (put_batch (integers (Limited 3)) empty_store (batch.Update five)).pairs)).rows
    ≡ shown_v (pos 0) (pos 3) ∷ shown_v (pos 1) (pos 4) ∷ shown_v (pos 2) (pos 2) ∷ []
unfolding value_order
three_slots = refl

-- after a clear rows are numbered from 0 again
pub numbered_anew : (put_batch (integers Free) (put_batch (integers Free) (put_batch (integers Free) empty_store (batch.Update five)) batch.Clear) (batch.Update (sets (pos 8) ∷ [])))
    ≡ record { pairs = record { key = Int (pos 0); row = Int (pos 8) ∷ [] } ∷ []; number = 1 }
numbered_anew = refl

pub removed_keys : (put_batch (integers (Indexed 0)) (put_batch (integers (Indexed 0)) empty_store (batch.Update five)) (batch.Remove (Int (pos 9) ∷ Int (pos 0) ∷ Int (pos 2) ∷ Int (pos 3) ∷ []))).pairs
    ≡ record { key = Int (pos 1); row = Int (pos 1) ∷ [] } ∷ record { key = Int (pos 4); row = Int (pos 4) ∷ [] } ∷ []
removed_keys = refl

-- ---- want of memory

pub want_is_said : answer roomy with_batch (by 0 (ask.apply 0) want) ≡ reply 4 0 (body.Refused memory)
want_is_said = refl

-- and the batch still waits
pub apply_after_want : answer roomy (by 0 (ask.apply 0) want ∷ with_batch) (asks (ask.apply 0)) ≡ reply 5 1 (body.Applied 0 1)
apply_after_want = refl

-- a refusal drops no batch
pub apply_after_a_refusal : answer roomy (asks (ask.apply 1) ∷ with_batch) (asks (ask.apply 0)) ≡ reply 5 1 (body.Applied 0 1)
apply_after_a_refusal = refl

pub port_after_want : answer roomy (by 0 ask.port want ∷ with_table) (asks ask.port) ≡ reply 3 0 (body.Port 0)
port_after_want = refl

pub view_after_want : answer roomy (by 0 open_all want ∷ with_rows) (asks open_all) ≡ reply 6 1 (body.Opened 0 (shows (shown_row (pos 1) (pos 7) ∷ shown_row (pos 2) (pos 5) ∷ [])) 0)
unfolding value_order
view_after_want = refl

abbrev may_want : List Entry → Ask → Bool
may_want h request = is_allowed roomy (past_of roomy h) 0 request want

pub want_of_a_table : may_want [] make_table ≡ true
want_of_a_table = refl

pub want_of_a_second_table : may_want with_table make_table ≡ true
want_of_a_second_table = refl

pub want_of_a_port : may_want with_table ask.port ≡ true
want_of_a_port = refl

pub want_of_a_second_port : may_want with_port ask.port ≡ true
want_of_a_second_port = refl

pub want_of_a_batch : may_want with_port (update (one_row (only_k (pos 1)))) ≡ true
want_of_a_batch = refl

pub want_of_unread_rows : may_want with_port (update raw_null) ≡ true
want_of_unread_rows = refl

pub want_of_an_apply : may_want with_batch (ask.apply 0) ≡ true
want_of_an_apply = refl

pub want_of_an_empty_port : may_want with_port (ask.apply 0) ≡ true
want_of_an_empty_port = refl

pub want_of_a_view : may_want with_rows open_all ≡ true
want_of_a_view = refl

pub want_of_a_window : may_want with_view (ask.rows 0 0 1) ≡ true
want_of_a_window = refl

pub want_of_an_edit : may_want with_view (edits (raw_map no_raw_members)).request ≡ true
want_of_an_edit = refl

pub want_of_a_depth : may_want with_view (ask.depth 0 1) ≡ true
want_of_a_depth = refl

pub want_of_an_expand : may_want with_view (ask.expand 0 []) ≡ true
unfolding value_order
want_of_an_expand = refl

pub no_want_without_table : may_want [] ask.port ≡ false
no_want_without_table = refl

pub no_want_of_an_unread_line : may_want with_table (ask.unread frame.Json) ≡ false
no_want_of_an_unread_line = refl

pub no_want_of_a_wrong_member : may_want with_table (ask.unread frame.Member) ≡ false
no_want_of_a_wrong_member = refl

pub no_want_of_a_full_history : is_allowed 2 (past_of 2 with_port) 0 make_table want ≡ false
no_want_of_a_full_history = refl

-- ---- a full history

pub full_at_two : answer 2 with_port (asks (ask.unread frame.Member)) ≡ reply 3 0 (body.Refused (history_full 2))
full_at_two = refl

pub full_of_another_session : answer 2 with_port (by 7 ask.port plenty) ≡ reply 1 0 (body.Refused (history_full 2))
full_of_another_session = refl

pub full_stays : history_after 2 with_port (entry_of 0 ask.port (answer 2 with_port (asks ask.port))) ≡ with_port
full_stays = refl

pub not_yet_full : answer 3 with_port (asks (ask.apply 0)) ≡ reply 3 0 (body.Refused empty)
not_yet_full = refl

-- ---- lost views

abbrev may_lose : List Entry → Ask → List (ℕ × ℕ) → Bool
may_lose h request lost = is_allowed roomy (past_of roomy h) 0 request (losing lost)

abbrev one_waiting : List Entry
one_waiting = asks (update (one_row (only_k (pos 1)))) ∷ with_view

pub a_held_view : may_lose one_waiting (ask.apply 0) ((0, 0) ∷ []) ≡ true
a_held_view = refl

pub no_view_at_all : may_lose one_waiting (ask.apply 0) [] ≡ false
no_view_at_all = refl

pub a_view_twice : may_lose one_waiting (ask.apply 0) ((0, 0) ∷ (0, 0) ∷ []) ≡ false
a_view_twice = refl

pub a_view_not_held : may_lose one_waiting (ask.apply 0) ((1, 0) ∷ []) ≡ false
a_view_not_held = refl

pub nothing_applied : may_lose with_view (ask.apply 0) ((0, 0) ∷ []) ≡ false
nothing_applied = refl

pub lost_is_said : answer roomy one_waiting (by 0 (ask.apply 0) (losing ((0, 0) ∷ []))) ≡ reply 7 2 (body.AppliedLosing ((0, 0) ∷ []) 0 2)
lost_is_said = refl

abbrev with_lost : List Entry
with_lost = by 0 (ask.apply 0) (losing ((0, 0) ∷ [])) ∷ one_waiting

-- a lost view refuses with the version at which it was lost, and is held all the same
pub rows_of_a_lost_view : answer roomy with_lost (asks (ask.rows 0 0 1)) ≡ reply 8 2 (body.Refused (view_lost 2))
rows_of_a_lost_view = refl

pub edit_of_a_lost_view : answer roomy with_lost (edits raw_null) ≡ reply 8 2 (body.Refused (view_lost 2))
edit_of_a_lost_view = refl

pub depth_of_a_lost_view : answer roomy with_lost (asks (ask.depth 0 1)) ≡ reply 8 2 (body.Refused (view_lost 2))
depth_of_a_lost_view = refl

pub expand_of_a_lost_view : answer roomy with_lost (asks (ask.expand 0 [])) ≡ reply 8 2 (body.Refused (view_lost 2))
expand_of_a_lost_view = refl

pub backwards_in_a_lost_view : answer roomy with_lost (asks (ask.rows 0 2 1)) ≡ reply 8 2 (body.Refused (view_lost 2))
backwards_in_a_lost_view = refl

pub a_lost_view_closes : answer roomy with_lost (asks (ask.close 0)) ≡ reply 8 2 (body.Closed 0)
a_lost_view_closes = refl

pub lost_twice : may_lose (asks (update (raw_list no_raw_items)) ∷ with_lost) (ask.apply 0) ((0, 0) ∷ []) ≡ false
lost_twice = refl
