-- The request that a line is.
use Rattle.std.specs.Prelude.{ℕ, ℤ, pos, negsuc, List, [], ◌∷◌, length, codes, Bool, true, false, ◌&&◌, ◌||◌, nat_lt, nat_le, if◌then◌else◌, Option, Some, None, option_map, option_and_then}
use Rattle.std.specs.List.{list_any}
use Rattle.std.specs.Str.{bytes_eq}
use Rattle.serde_json.specs.Data.{Data, boolean, array, Items, no_items, item, Members, no_members, member}
use Rattle.serde_json.specs.Find.{get_member, as_str, as_array, as_object}
use Rattle.cell_core.specs.declared.cell.Cell.{Cell}
use Rattle.cell_core.specs.declared.schema.ColumnWords.{ColumnWords}
use Rattle.frame_types.specs.Asks.{Ask}
use Rattle.frame_types.specs.Asks as ask
use Rattle.frame_types.specs.Limits.{max_line, max_bound, max_depth, client_sessions}
use Rattle.frame_types.specs.declared.request.FrameCause.{FrameCause}
use Rattle.frame_types.specs.declared.request.FrameCause.TheVariants as cause
use Rattle.json_rows.specs.RawOf.{raw_data}
use Rattle.frame_json.specs.Parsing.{json_of}
use Rattle.frame_json.specs.Parts.{whole_of, path_of}
use Rattle.frame_json.specs.declared.op.Op.{Op}
use Rattle.frame_json.specs.declared.op.Op.TheVariants as op

-- ---- members

abbrev pub at_least_0 : ℤ → Option ℕ
at_least_0 (pos n) = Some n
at_least_0 (negsuc n) = None

-- a whole number that is at least 0
abbrev pub natural_of : Data → Option ℕ
natural_of d = option_and_then at_least_0 (whole_of d)

abbrev pub natural : List ℕ → Members → Option ℕ
natural name ms = option_and_then natural_of (get_member name ms)

abbrev pub words : List ℕ → Members → Option (List ℕ)
words name ms = option_and_then as_str (get_member name ms)

abbrev pub flag_of : Data → Option Bool
flag_of (boolean b) = Some b
flag_of other = None

-- a member that may be left out
abbrev pub optional : {X : Type 0} → (Data → Option X) → Option Data → Option (Option X)
optional reads None = Some None
optional reads (Some d) = option_map Some (reads d)

abbrev pub up_to : ℕ → ℕ → Option ℕ
up_to most n = if nat_le n most then Some n else None

abbrev pub bound_of : Option Data → Option ℕ
bound_of None = Some max_bound
bound_of (Some d) = option_and_then (up_to max_bound) (natural_of d)

-- false where it is left out
abbrev pub wait_of : Option Data → Option Bool
wait_of None = Some false
wait_of (Some d) = flag_of d

-- from 0 to 63, and 0 where it is left out
abbrev pub below : ℕ → ℕ → Option ℕ
below end n = if nat_lt n end then Some n else None

abbrev pub session_of : Option Data → Option ℕ
session_of None = Some 0
session_of (Some d) = option_and_then (below client_sessions) (natural_of d)

-- `[name, type name]`
abbrev pub words_of : Data → Data → Option ColumnWords
words_of a b = option_and_then (λ n. option_map (λ k. record { name = n; kind = k }) (as_str b)) (as_str a)

abbrev pub pair_of : Items → Option ColumnWords
pair_of no_items = None
pair_of (item a no_items) = None
pair_of (item a (item b no_items)) = words_of a b
pair_of (item a (item b (item c ds))) = None

abbrev pub column_of : Data → Option ColumnWords
column_of d = option_and_then pair_of (as_array d)

abbrev pub columns_of : Items → Option (List ColumnWords)
columns_of no_items = Some []
columns_of (item d ds) = option_and_then (λ c. option_map (λ cs. c ∷ cs) (columns_of ds)) (column_of d)

abbrev pub columns : Members → Option (List ColumnWords)
columns ms = option_and_then columns_of (option_and_then as_array (get_member (codes "columns") ms))

-- ---- each form

abbrev pub table_of : Members → Option Ask
table_of ms =
    option_and_then (λ cs. option_and_then (λ i. option_map (λ l. ask.table cs i l)
    (optional whole_of (get_member (codes "limit") ms)))
    (optional as_str (get_member (codes "index") ms)))
    (columns ms)

abbrev pub port_of : Members → Option ℕ
port_of ms = natural (codes "port") ms

abbrev pub view_of : Members → Option ℕ
view_of ms = natural (codes "view") ms

abbrev pub update_of : Members → Option Ask
update_of ms = option_and_then (λ p. option_map (λ r. ask.update p (raw_data r)) (get_member (codes "rows") ms)) (port_of ms)

abbrev pub replace_of : Members → Option Ask
replace_of ms = option_and_then (λ p. option_map (λ r. ask.replace p (raw_data r)) (get_member (codes "rows") ms)) (port_of ms)

abbrev pub csv_of : Members → Option Ask
csv_of ms = option_and_then (λ p. option_map (λ t. ask.csv p t) (words (codes "text") ms)) (port_of ms)

-- a list, judged later
abbrev pub list_of : Data → Option Data
list_of (array ds) = Some (array ds)
list_of other = None

abbrev pub remove_of : Members → Option Ask
remove_of ms =
    option_and_then (λ p. option_map (λ k. ask.remove p (raw_data k)) (option_and_then list_of (get_member (codes "keys") ms))) (port_of ms)

abbrev pub open_of : Members → Option Ask
open_of ms = option_and_then (λ b. option_map (λ p. ask.open_view (raw_data p) b) (get_member (codes "plan") ms)) (bound_of (get_member (codes "bound") ms))

abbrev pub rows_of : Members → Option Ask
rows_of ms =
    option_and_then (λ v. option_and_then (λ f. option_map (λ t. ask.rows v f t) (natural (codes "to") ms)) (natural (codes "from") ms)) (view_of ms)

abbrev pub take_of : Members → Option Ask
take_of ms = option_and_then (λ v. option_map (λ w. ask.take v w) (wait_of (get_member (codes "wait") ms))) (view_of ms)

abbrev pub edit_of : Members → Option Ask
edit_of ms = option_and_then (λ v. option_map (λ p. ask.edit_view v (raw_data p)) (get_member (codes "plan") ms)) (view_of ms)

abbrev pub depth_of : Members → Option Ask
depth_of ms =
    option_and_then (λ v. option_map (λ d. ask.depth v d) (option_and_then (up_to max_depth) (natural (codes "depth") ms))) (view_of ms)

-- a group's
abbrev pub path : Members → Option (List Cell)
path ms = option_and_then path_of (get_member (codes "path") ms)

abbrev pub expand_of : Members → Option Ask
expand_of ms = option_and_then (λ v. option_map (λ p. ask.expand v p) (path ms)) (view_of ms)

abbrev pub collapse_of : Members → Option Ask
collapse_of ms = option_and_then (λ v. option_map (λ p. ask.collapse v p) (path ms)) (view_of ms)

-- the request of an object whose members all belong to its form
abbrev pub ask_of : Op → Members → Option Ask
ask_of op.Table ms = table_of ms
ask_of op.Port ms = Some ask.port
ask_of op.Leave ms = Some ask.leave
ask_of op.Info ms = Some ask.info
ask_of op.Update ms = update_of ms
ask_of op.Replace ms = replace_of ms
ask_of op.Csv ms = csv_of ms
ask_of op.Remove ms = remove_of ms
ask_of op.Clear ms = option_map ask.clear (port_of ms)
ask_of op.ClosePort ms = option_map ask.close_port (port_of ms)
ask_of op.Apply ms = option_map ask.apply (port_of ms)
ask_of op.Open ms = open_of ms
ask_of op.Edit ms = edit_of ms
ask_of op.Depth ms = depth_of ms
ask_of op.Expand ms = expand_of ms
ask_of op.Collapse ms = collapse_of ms
ask_of op.Take ms = take_of ms
ask_of op.Rows ms = rows_of ms
ask_of op.Close ms = option_map ask.close (view_of ms)

-- ---- names

abbrev pub op_named : List ℕ → Option Op
op_named s =
    if bytes_eq s (codes "table") then Some op.Table else
    (if bytes_eq s (codes "port") then Some op.Port else
    (if bytes_eq s (codes "leave") then Some op.Leave else
    (if bytes_eq s (codes "info") then Some op.Info else
    (if bytes_eq s (codes "update") then Some op.Update else
    (if bytes_eq s (codes "replace") then Some op.Replace else
    (if bytes_eq s (codes "csv") then Some op.Csv else
    (if bytes_eq s (codes "remove") then Some op.Remove else
    (if bytes_eq s (codes "clear") then Some op.Clear else
    (if bytes_eq s (codes "close_port") then Some op.ClosePort else
    (if bytes_eq s (codes "apply") then Some op.Apply else
    (if bytes_eq s (codes "open") then Some op.Open else
    (if bytes_eq s (codes "edit") then Some op.Edit else
    (if bytes_eq s (codes "depth") then Some op.Depth else
    (if bytes_eq s (codes "expand") then Some op.Expand else
    (if bytes_eq s (codes "collapse") then Some op.Collapse else
    (if bytes_eq s (codes "take") then Some op.Take else
    (if bytes_eq s (codes "rows") then Some op.Rows else
    (if bytes_eq s (codes "close") then Some op.Close else None))))))))))))))))))

-- the members of each form, beside `op` and, in a script, `session`
abbrev pub members_named : Op → List (List ℕ)
members_named op.Table = codes "columns" ∷ codes "index" ∷ codes "limit" ∷ []
members_named op.Port = []
members_named op.Leave = []
members_named op.Info = []
members_named op.Update = codes "port" ∷ codes "rows" ∷ []
members_named op.Replace = codes "port" ∷ codes "rows" ∷ []
members_named op.Csv = codes "port" ∷ codes "text" ∷ []
members_named op.Remove = codes "port" ∷ codes "keys" ∷ []
members_named op.Clear = codes "port" ∷ []
members_named op.ClosePort = codes "port" ∷ []
members_named op.Apply = codes "port" ∷ []
members_named op.Open = codes "plan" ∷ codes "bound" ∷ []
members_named op.Edit = codes "view" ∷ codes "plan" ∷ []
members_named op.Depth = codes "view" ∷ codes "depth" ∷ []
members_named op.Expand = codes "view" ∷ codes "path" ∷ []
members_named op.Collapse = codes "view" ∷ codes "path" ∷ []
members_named op.Take = codes "view" ∷ codes "wait" ∷ []
members_named op.Rows = codes "view" ∷ codes "from" ∷ codes "to" ∷ []
members_named op.Close = codes "view" ∷ []

abbrev pub belongs : Bool → Op → List ℕ → Bool
belongs scripted o s = bytes_eq s (codes "op") || scripted && bytes_eq s (codes "session") || list_any (bytes_eq s) (members_named o)

abbrev pub all_belong : Bool → Op → Members → Bool
all_belong scripted o no_members = true
all_belong scripted o (member k d ms) = belongs scripted o k && all_belong scripted o ms

-- ---- the whole

-- what can't be read counts in session 0
abbrev pub unread_by : FrameCause → ℕ × Ask
unread_by why = (0, ask.unread why)

abbrev pub asked : Option ℕ → Option Ask → ℕ × Ask
asked None request = unread_by cause.Member
asked (Some session) None = unread_by cause.Member
asked (Some session) (Some request) = (session, request)

abbrev pub of_op : Bool → Members → Option Op → ℕ × Ask
of_op scripted ms None = unread_by cause.Op
of_op scripted ms (Some o) =
    if all_belong scripted o ms then asked (session_of (get_member (codes "session") ms)) (ask_of o ms) else unread_by cause.Member

abbrev pub of_object : Bool → Option Members → ℕ × Ask
of_object scripted None = unread_by cause.Object
of_object scripted (Some ms) = of_op scripted ms (option_and_then op_named (words (codes "op") ms))

abbrev pub of_json : Bool → Option Data → ℕ × Ask
of_json scripted None = unread_by cause.Json
of_json scripted (Some d) = of_object scripted (as_object d)

-- the session and the request of a line, of a script or of a message
abbrev pub request_of : List ℕ → Bool → ℕ × Ask
request_of line scripted = if nat_lt max_line (length line) then unread_by cause.Long else of_json scripted (json_of line)
