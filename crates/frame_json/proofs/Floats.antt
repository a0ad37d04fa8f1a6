-- A reply has no float in it.
use Rattle.std.proofs.Common.{◌≡◌, ℕ, ℤ, pos, negsuc, List, [], ◌∷◌, Option, option_map, Some, None, Bool, true, false, cond, map, Ordering, Less, Equal, Greater, nat_cmp, codes, refl}
use Rattle.std.specs.Cmp.Lexicographic.{slice_cmp}
use Rattle.std.specs.Fmt.{signed_decimal}
use Rattle.std.specs.Ordering.{match_ordering}
use Rattle.std.proofs.lemmas.Bool.{or_parts}
use Rattle.serde_json.specs.Data.{Data, string, Members, no_members, member, put}
use Rattle.serde_json.specs.View.{items_of}
use Rattle.serde_json.specs.Written.{has_float, items_have_float, members_have_float}
use Rattle.cal_units.specs.Calendar.{is_day}
use Rattle.cal_units.specs.DateText.{date_text}
use Rattle.value_core.specs.declared.value.Value.{Value}
use Rattle.value_core.specs.declared.value.Value.TheVariants as value
use Rattle.cell_core.specs.declared.cell.Cell.{Cell}
use Rattle.cell_core.specs.declared.cell.Cell.TheVariants as cell
use Rattle.cell_core.specs.declared.schema.Numbers.{Numbers}
use Rattle.cell_core.specs.declared.schema.Numbers.TheVariants as numbers
use Rattle.cell_core.specs.declared.schema.ColumnWords.{ColumnWords}
use Rattle.row_batch.specs.Checks.{is_integer}
use Rattle.view_types.specs.declared.key.ViewKey.{ViewKey}
use Rattle.view_types.specs.declared.key.ViewKey.TheVariants as key
use Rattle.view_types.specs.declared.shown.HeaderColumn.{HeaderColumn}
use Rattle.view_types.specs.declared.shown.ShownRow.{ShownRow}
use Rattle.delta_core.specs.declared.delta.Put.{Put}
use Rattle.frame_types.specs.declared.reply.Body.{Body}
use Rattle.frame_types.specs.declared.reply.Body.TheVariants as body
use Rattle.frame_types.specs.declared.reply.Reply.{Reply}
use Rattle.frame_json.specs.Replies.{integer, pair, triple, tagged, whole_data, day_data, date_data, moment_data, value_data, part_data, key_data, keys_data, column_data, header_data, with_cells, cells_data, keyed_data, row_data, rows_data, put_data, puts_data, natural, lost_view, lost_data, at_items, words_data, columns_data, Named, given, table_members, form_of, members_of, with_members, reply_data}

abbrev Free : Data → Type 0
Free d = has_float d ≡ false

abbrev AreFree : Members → Type 0
AreFree ms = members_have_float ms ≡ false

integer-free : (z : ℤ) → Free (integer z)
integer-free (pos n) = refl
integer-free (negsuc n) = refl

pair-free : (a b : Data) → Free a → Free b → Free (pair a b)
pair-free a b p q = rw (p, q)

triple-free : (a b c : Data) → Free a → Free b → Free c → Free (triple a b c)
triple-free a b c p q r = rw (p, q, r)

items-free : {X : Type 0} (f : X → Data) → ((x : X) → Free (f x)) → (xs : List X) → items_have_float (items_of (map f xs)) ≡ false
items-free f free [] = refl
items-free f free (x ∷ xs) = rw (free x) (items-free f free xs)

-- ---- values

whole_by : (b : Bool) (z : ℤ) → Free (cond b (integer z) (tagged (codes "i") (string (signed_decimal z))))
whole_by true z = integer-free z
whole_by false z = refl

whole-free : (z : ℤ) → Free (whole_data z)
whole-free z = whole_by (is_integer z) z

day_by : (b : Bool) (day : ℤ) → Free (cond b (string (date_text day)) (integer day))
day_by true day = refl
day_by false day = integer-free day

date-free : (day : ℤ) → Free (date_data day)
date-free day = pair-free (string (codes "d")) (day_data day) refl (day_by (is_day day) day)

moment-free : (ms : ℤ) → Free (moment_data ms)
moment-free ms = pair-free (string (codes "t")) (integer ms) refl (integer-free ms)

value-free : (v : Value) → Free (value_data v)
value-free (value.Bool b) = refl
value-free (value.Whole z) = whole-free z
value-free (value.Fraction f) = pair-free (whole_data f.n) (whole_data f.d) (whole-free f.n) (whole-free f.d)
value-free (value.Date day) = date-free day
value-free (value.Moment ms) = moment-free ms
value-free (value.Words s) = refl

part-free : (c : Cell) → Free (part_data c)
part-free cell.Null = refl
part-free (cell.Bool b) = refl
part-free (cell.Int z) = integer-free z
part-free (cell.Date day) = date-free day
part-free (cell.Moment ms) = moment-free ms
part-free (cell.Words s) = refl

-- ---- members

chosen-free : (o : Ordering) (a b c : Members) → AreFree a → AreFree b → AreFree c → AreFree (match_ordering o a b c)
chosen-free Less a b c p q r = p
chosen-free Equal a b c p q r = q
chosen-free Greater a b c p q r = r

put-free : (k : List ℕ) (d : Data) (ms : Members) → Free d → AreFree ms → AreFree (put k d ms)
put-free k d no_members p q = rw p
put-free k d (member l e ms) p q =
    let parts = or_parts (has_float e) (members_have_float ms) q in
    chosen-free (slice_cmp nat_cmp k l) _ _ _ (rw p q) (rw p parts.1) (rw parts.0 (put-free k d ms p parts.1))

cells-free : (ms : Members) (cells : List (List ℕ × Value)) → AreFree ms → AreFree (with_cells ms cells)
cells-free ms [] h = h
cells-free ms (c ∷ cells) h = cells-free (put c.0 (value_data c.1) ms) cells (put-free c.0 (value_data c.1) ms (value-free c.1) h)

-- ---- headers and rows

header-free : (cs : List HeaderColumn) → Free (header_data cs)
header-free cs = items-free column_data (λ c. refl) cs

keyed-free : (k : ViewKey) (mark : Bool) (cells : Data) → Free cells → Free (keyed_data k mark cells)
keyed-free (key.Row c) mark cells h = rw (part-free c, h)
keyed-free (key.Group path) mark cells h = rw (items-free part_data part-free path, h)

row-free : (r : ShownRow) → Free (row_data r)
row-free r = keyed-free r.key r.mark (cells_data r.cells) (cells-free no_members r.cells refl)

rows-free : (rs : List ShownRow) → Free (rows_data rs)
rows-free rs = items-free row_data row-free rs

-- ---- deltas

key-free : (k : ViewKey) → Free (key_data k)
key-free (key.Row c) = rw (part-free c)
key-free (key.Group path) = rw (items-free part_data part-free path)

keys-free : (ks : List ViewKey) → Free (keys_data ks)
keys-free ks = items-free key_data key-free ks

placed-free : (p : Put) → Free (put_data p)
placed-free p = rw (row-free p.row)

puts-free : (ps : List Put) → Free (puts_data ps)
puts-free ps = items-free put_data placed-free ps

-- ---- replies

lost-free : (vs : List (ℕ × ℕ)) → Free (lost_data vs)
lost-free vs = items-free lost_view (λ v. refl) vs

at-free : (at : Numbers) → items_have_float (at_items at) ≡ false
at-free numbers.Zero = refl
at-free (numbers.One a) = refl
at-free (numbers.Two a b) = refl

columns-free : (cs : List ColumnWords) → Free (columns_data cs)
columns-free cs = items-free words_data (λ c. refl) cs

-- each has a value without a float
abbrev AllFree : List Named → Type 0
AllFree [] = Unit {0}
AllFree (m ∷ ms) = Free m.1 × AllFree ms

header-given : (header : Option (List HeaderColumn)) → AllFree (given (codes "header") (option_map header_data header))
header-given None = tt
header-given (Some cs) = (header-free cs, tt)

table-free : (columns : List ColumnWords) (index : Option (List ℕ)) (limit : Option ℕ) → AllFree (table_members columns index limit)
table-free columns None None = (columns-free columns, tt)
table-free columns None (Some l) = (columns-free columns, (refl, tt))
table-free columns (Some i) None = (columns-free columns, (refl, tt))
table-free columns (Some i) (Some l) = (columns-free columns, (refl, (refl, tt)))

members-free : (b : Body) → AllFree (members_of b)
members-free body.Table = tt
members-free (body.Port port) = (refl, tt)
members-free (body.PortClosed port) = (refl, tt)
members-free (body.Queued port seq) = (refl, (refl, tt))
members-free (body.Applied port seq) = (refl, (refl, tt))
members-free (body.AppliedLosing lost port seq) = (lost-free lost, (refl, (refl, tt)))
members-free (body.Opened edit shown view) = (header-free shown.header, (rows-free shown.rows, (refl, (refl, tt))))
members-free (body.Edited edit view) = (refl, (refl, tt))
members-free (body.Delta delta view) = (refl, (refl, (refl, (puts-free delta.puts, (keys-free delta.removed, header-given delta.header)))))
members-free (body.Resync bound edit shown view) = (header-free shown.header, (rows-free shown.rows, (refl, (refl, (refl, tt)))))
members-free (body.Rows edit first shown size view) =
    (header-free shown.header, (rows-free shown.rows, (refl, (refl, (refl, (refl, tt))))))
members-free (body.Closed view) = (refl, tt)
members-free (body.Left closed) = (refl, tt)
members-free (body.Info columns index limit size waiting) = (refl, (refl, table-free columns index limit))
members-free (body.Refused r) = (at-free r.at, (refl, (refl, tt)))

with-free : (ms : Members) (named : List Named) → AreFree ms → AllFree named → AreFree (with_members ms named)
with-free ms [] h k = h
with-free ms (n ∷ named) h k = with-free (put n.0 n.1 ms) named (put-free n.0 n.1 ms k.0 h) k.1

pub has_float-reply_data : (r : Reply) → has_float (reply_data r) ≡ false
has_float-reply_data r =
    let every : List Named = (codes "is", string (form_of r.body)) ∷ (codes "n", natural r.n) ∷ (codes "version", natural r.version) ∷ members_of r.body in
    with-free no_members every refl (refl, (refl, (refl, members-free r.body)))
