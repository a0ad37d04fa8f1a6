-- The one total order of cells, and cells as shown values.
use Rattle.std.specs.Prelude.{ℕ, Bool, true, false, Option, Some, None}
use Rattle.std.specs.Cmp.Lexicographic.{slice_cmp}
use Rattle.std.specs.declared.cmp.Ordering.{Ordering}
use Rattle.std.specs.Ordering.{nat_cmp, int_cmp, bool_cmp, is_eq}
use Rattle.value_core.specs.declared.value.Value.{Value}
use Rattle.value_core.specs.declared.value.Value.TheVariants as value
use Rattle.cell_core.specs.declared.cell.Cell.{Cell}
use Rattle.cell_core.specs.declared.cell.Cell.TheVariants as cell

abbrev pub is_null : Cell → Bool
is_null cell.Null = true
is_null other = false

-- null, boolean, whole number, fraction, date, datetime, text
abbrev pub kind : Cell → ℕ
kind cell.Null = 0
kind (cell.Bool b) = 1
kind (cell.Int n) = 2
kind (cell.Date d) = 4
kind (cell.Moment t) = 5
kind (cell.Words s) = 6

-- by kind, then by value: false before true, texts by bytes
abbrev pub cell_order : Cell → Cell → Ordering
cell_order (cell.Bool a) (cell.Bool b) = bool_cmp a b
cell_order (cell.Int a) (cell.Int b) = int_cmp a b
cell_order (cell.Date a) (cell.Date b) = int_cmp a b
cell_order (cell.Moment a) (cell.Moment b) = int_cmp a b
cell_order (cell.Words a) (cell.Words b) = slice_cmp nat_cmp a b
cell_order a b = nat_cmp (kind a) (kind b)

abbrev pub same_cell : Cell → Cell → Bool
same_cell a b = is_eq (cell_order a b)

-- the value that a cell shows
abbrev pub value_of : Cell → Option Value
value_of cell.Null = None
value_of (cell.Bool b) = Some (value.Bool b)
value_of (cell.Int n) = Some (value.Whole n)
value_of (cell.Date d) = Some (value.Date d)
value_of (cell.Moment t) = Some (value.Moment t)
value_of (cell.Words s) = Some (value.Words s)
