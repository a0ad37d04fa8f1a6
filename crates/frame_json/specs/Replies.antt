-- The text of a reply: the compact JSON of an object whose members stand in byte order of their names.
use Rattle.std.specs.Prelude.{ℕ, ℤ, List, [], ◌∷◌, ◌++◌, codes, map, fold, if◌then◌else◌, Bool, Option, Some, None, option_map}
use Rattle.std.specs.Fmt.{signed_decimal}
use Rattle.serde_json.specs.Data.{unsigned, Data, null, boolean, number, string, array, object, Items, no_items, item, Members, no_members, put}
use Rattle.serde_json.specs.Find.{of_integer}
use Rattle.serde_json.specs.View.{items_of}
use Rattle.serde_json.specs.Written.{compact_text}
use Rattle.cal_units.specs.Calendar.{is_day}
use Rattle.cal_units.specs.DateText.{date_text}
use Rattle.value_core.specs.declared.fraction.Fraction.{Fraction}
use Rattle.value_core.specs.declared.value.Value.{Value}
use Rattle.value_core.specs.declared.value.Value.TheVariants as value
use Rattle.cell_core.specs.declared.cell.Cell.{Cell}
use Rattle.cell_core.specs.declared.cell.Cell.TheVariants as cell
use Rattle.cell_core.specs.declared.schema.Numbers.{Numbers}
use Rattle.cell_core.specs.declared.schema.Numbers.TheVariants as numbers
use Rattle.cell_core.specs.declared.schema.ColumnWords.{ColumnWords}
use Rattle.row_batch.specs.Checks.{is_integer}
use Rattle.view_types.specs.Types.{shown_type_name}
use Rattle.view_types.specs.declared.key.ViewKey.{ViewKey}
use Rattle.view_types.specs.declared.key.ViewKey.TheVariants as key
use Rattle.view_types.specs.declared.shown.HeaderColumn.{HeaderColumn}
use Rattle.view_types.specs.declared.shown.Shown.{Shown}
use Rattle.view_types.specs.declared.shown.ShownRow.{ShownRow}
use Rattle.delta_core.specs.declared.delta.Delta.{Delta}
use Rattle.delta_core.specs.declared.delta.Mark.{Mark}
use Rattle.delta_core.specs.declared.delta.Put.{Put}
use Rattle.frame_types.specs.Refusals.{cause_text}
use Rattle.frame_types.specs.declared.reply.Refusal.{Refusal}
use Rattle.frame_types.specs.declared.reply.Body.{Body}
use Rattle.frame_types.specs.declared.reply.Body.TheVariants as body
use Rattle.frame_types.specs.declared.reply.Reply.{Reply}

-- ---- values

abbrev pub natural : ℕ → Data
natural n = number (unsigned n)

abbrev pub integer : ℤ → Data
integer z = number (of_integer z)

abbrev pub pair : Data → Data → Data
pair a b = array (item a (item b no_items))

abbrev pub triple : Data → Data → Data → Data
triple a b c = array (item a (item b (item c no_items)))

-- a value under a letter that tells its kind
abbrev pub tagged : List ℕ → Data → Data
tagged letter d = pair (string letter) d

-- another whole number is `["i","digits"]`
abbrev pub whole_data : ℤ → Data
whole_data z = if is_integer z then integer z else tagged (codes "i") (string (signed_decimal z))

abbrev pub fraction_data : Fraction → Data
fraction_data f = pair (whole_data f.n) (whole_data f.d)

-- `YYYY-MM-DD`; a day without such a text, which no table holds, is written as its number
abbrev pub day_data : ℤ → Data
day_data day = if is_day day then string (date_text day) else integer day

abbrev pub date_data : ℤ → Data
date_data day = tagged (codes "d") (day_data day)

abbrev pub moment_data : ℤ → Data
moment_data ms = tagged (codes "t") (integer ms)

abbrev pub value_data : Value → Data
value_data (value.Bool b) = boolean b
value_data (value.Whole z) = whole_data z
value_data (value.Fraction f) = fraction_data f
value_data (value.Date day) = date_data day
value_data (value.Moment ms) = moment_data ms
value_data (value.Words s) = string s

-- ---- keys

abbrev pub part_data : Cell → Data
part_data cell.Null = null
part_data (cell.Bool b) = boolean b
part_data (cell.Int z) = integer z
part_data (cell.Date day) = date_data day
part_data (cell.Moment ms) = moment_data ms
part_data (cell.Words s) = string s

-- `["r",part]`
abbrev pub row_key : Cell → Data
row_key c = tagged (codes "r") (part_data c)

-- `["g",part,..]`
abbrev pub group_key : List Cell → Data
group_key path = array (item (string (codes "g")) (items_of (map part_data path)))

abbrev pub key_data : ViewKey → Data
key_data (key.Row c) = row_key c
key_data (key.Group path) = group_key path

abbrev pub keys_data : List ViewKey → Data
keys_data ks = array (items_of (map key_data ks))

-- ---- headers and rows

abbrev pub column_data : HeaderColumn → Data
column_data c = pair (string c.text) (string (shown_type_name c.kind))

abbrev pub header_data : List HeaderColumn → Data
header_data cs = array (items_of (map column_data cs))

-- the members, with each cell at its column's text, in byte order of the texts
abbrev pub with_cells : Members → List (List ℕ × Value) → Members
with_cells ms cells = fold (λ found c. put c.0 (value_data c.1) found) ms cells

abbrev pub cells_data : List (List ℕ × Value) → Data
cells_data cells = object (with_cells no_members cells)

-- a row with its key and cells; a group with its mark between them
abbrev pub keyed_data : ViewKey → Bool → Data → Data
keyed_data (key.Row c) mark cells = pair (row_key c) cells
keyed_data (key.Group path) mark cells = triple (group_key path) (boolean mark) cells

abbrev pub row_data : ShownRow → Data
row_data r = keyed_data r.key r.mark (cells_data r.cells)

abbrev pub rows_data : List ShownRow → Data
rows_data rs = array (items_of (map row_data rs))

-- `[position, row]`
abbrev pub put_data : Put → Data
put_data p = pair (natural p.position) (row_data p.row)

abbrev pub puts_data : List Put → Data
puts_data ps = array (items_of (map put_data ps))

-- `[version, edit]`
abbrev pub mark_data : Mark → Data
mark_data m = pair (natural m.version) (natural m.edit)

-- ---- replies

-- a view by its session and its number
abbrev pub lost_view : ℕ × ℕ → Data
lost_view v = pair (natural v.0) (natural v.1)

abbrev pub lost_data : List (ℕ × ℕ) → Data
lost_data vs = array (items_of (map lost_view vs))

abbrev pub at_items : Numbers → Items
at_items numbers.Zero = no_items
at_items (numbers.One a) = item (natural a) no_items
at_items (numbers.Two a b) = item (natural a) (item (natural b) no_items)

-- `[name, type name]`
abbrev pub words_data : ColumnWords → Data
words_data c = pair (string c.name) (string c.kind)

abbrev pub columns_data : List ColumnWords → Data
columns_data cs = array (items_of (map words_data cs))

-- members by their names
abbrev pub Named : Type 0
Named = List ℕ × Data

-- a member that is left out where there is none
abbrev pub given : List ℕ → Option Data → List Named
given name None = []
given name (Some d) = (name, d) ∷ []

abbrev pub numbers_named : List (List ℕ × ℕ) → List Named
numbers_named ns = map (λ n. (n.0, natural n.1)) ns

abbrev pub shown_members : Shown → List Named
shown_members shown = (codes "header", header_data shown.header) ∷ (codes "rows", rows_data shown.rows) ∷ []

-- of the mark at which the delta ends the edit number is written; the version is the reply's
abbrev pub delta_members : Delta → List Named
delta_members d =
    (codes "edit", natural d.to.edit) ∷ (codes "from", mark_data d.«from») ∷ (codes "put", puts_data d.puts)
    ∷ (codes "removed", keys_data d.removed) ∷ given (codes "header") (option_map header_data d.header)

abbrev pub table_members : List ColumnWords → Option (List ℕ) → Option ℕ → List Named
table_members columns index limit =
    (codes "columns", columns_data columns) ∷ given (codes "index") (option_map string index)
    ++ given (codes "limit") (option_map natural limit)

abbrev pub refusal_members : Refusal → List Named
refusal_members r =
    (codes "at", array (at_items r.at)) ∷ (codes "cause", string (cause_text r.cause)) ∷ (codes "code", natural r.code) ∷ []

-- a reply's form, which stands under `is`
abbrev pub form_of : Body → List ℕ
form_of body.Table = codes "table"
form_of (body.Port port) = codes "port"
form_of (body.PortClosed port) = codes "port_closed"
form_of (body.Queued port seq) = codes "queued"
form_of (body.Applied port seq) = codes "applied"
form_of (body.AppliedLosing lost port seq) = codes "applied_losing"
form_of (body.Opened edit shown view) = codes "opened"
form_of (body.Edited edit view) = codes "edited"
form_of (body.Delta delta view) = codes "delta"
form_of (body.Resync bound edit shown view) = codes "resync"
form_of (body.Rows edit first shown size view) = codes "rows"
form_of (body.Closed view) = codes "closed"
form_of (body.Left closed) = codes "left"
form_of (body.Info columns index limit size waiting) = codes "info"
form_of (body.Refused r) = codes "refused"

-- the members that a form has beside `is`, `n` and `version`
abbrev pub members_of : Body → List Named
members_of body.Table = []
members_of (body.Port port) = numbers_named ((codes "port", port) ∷ [])
members_of (body.PortClosed port) = numbers_named ((codes "port", port) ∷ [])
members_of (body.Queued port seq) = numbers_named ((codes "port", port) ∷ (codes "seq", seq) ∷ [])
members_of (body.Applied port seq) = numbers_named ((codes "port", port) ∷ (codes "seq", seq) ∷ [])
members_of (body.AppliedLosing lost port seq) =
    (codes "lost", lost_data lost) ∷ numbers_named ((codes "port", port) ∷ (codes "seq", seq) ∷ [])
members_of (body.Opened edit shown view) = shown_members shown ++ numbers_named ((codes "edit", edit) ∷ (codes "view", view) ∷ [])
members_of (body.Edited edit view) = numbers_named ((codes "edit", edit) ∷ (codes "view", view) ∷ [])
members_of (body.Delta delta view) = (codes "view", natural view) ∷ delta_members delta
members_of (body.Resync bound edit shown view) =
    shown_members shown ++ numbers_named ((codes "bound", bound) ∷ (codes "edit", edit) ∷ (codes "view", view) ∷ [])
members_of (body.Rows edit first shown size view) =
    shown_members shown
    ++ numbers_named ((codes "edit", edit) ∷ (codes "from", first) ∷ (codes "size", size) ∷ (codes "view", view) ∷ [])
members_of (body.Closed view) = numbers_named ((codes "view", view) ∷ [])
members_of (body.Left closed) = numbers_named ((codes "closed", closed) ∷ [])
members_of (body.Info columns index limit size waiting) =
    numbers_named ((codes "size", size) ∷ (codes "waiting", waiting) ∷ []) ++ table_members columns index limit
members_of (body.Refused r) = refusal_members r

-- the members with others, each in its place in byte order of the names
abbrev pub with_members : Members → List Named → Members
with_members ms named = fold (λ found n. put n.0 n.1 found) ms named

abbrev pub reply_data : Reply → Data
reply_data r =
    object (with_members no_members ((codes "is", string (form_of r.body)) ∷ (codes "n", natural r.n)
    ∷ (codes "version", natural r.version) ∷ members_of r.body))

abbrev pub text : Reply → List ℕ
text r = compact_text (reply_data r)
