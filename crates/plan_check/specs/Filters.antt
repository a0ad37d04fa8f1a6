-- The filters of a plan.
use Rattle.std.specs.Prelude.{ℕ, nat_lt, List, length, codes, Bool, true, false, not, Option, Some, None, option_map, Result, Ok, Err, if◌then◌else◌}
use Rattle.std.specs.Str.{bytes_eq}
use Rattle.plain_data.specs.Results.{and_then}
use Rattle.cell_core.specs.Cells.{is_null}
use Rattle.cell_core.specs.Limits.{max_text}
use Rattle.cell_core.specs.RawData.{RawData, raw_null, raw_words, raw_list}
use Rattle.cell_core.specs.declared.cell.Cell.{Cell}
use Rattle.cell_core.specs.declared.cell.CellType.{CellType}
use Rattle.cell_core.specs.declared.cell.CellType.TheVariants as kinds
use Rattle.cell_core.specs.declared.schema.Column.{Column}
use Rattle.cell_core.specs.declared.schema.Numbers.TheVariants.{Zero, One}
use Rattle.row_batch.specs.declared.refused.RowCause.{RowCause}
use Rattle.plan_types.specs.declared.plan.Filter.{Filter}
use Rattle.plan_types.specs.declared.plan.FilterTest.{FilterTest}
use Rattle.plan_types.specs.declared.plan.FilterTest.TheVariants as test
use Rattle.row_cells.specs.Rows.{read_each}
use Rattle.json_rows.specs.Reading.{cell_of}
use Rattle.plan_json.specs.Plans.{RawFilterData}
use Rattle.plan_json.specs.Reading.{each}
use Rattle.plan_check.specs.Columns.{known}
use Rattle.plan_check.specs.Faults.{fault, found, unless, at_most}
use Rattle.plan_check.specs.declared.columns.ColumnPlace.{ColumnPlace}
use Rattle.plan_check.specs.declared.filters.Operator.{Operator}
use Rattle.plan_check.specs.declared.filters.Operator.TheVariants as operator
use Rattle.plan_json.specs.declared.words.PlanCause.TheVariants as cause
use Rattle.plan_check.specs.declared.refused.PlanFault.{PlanFault}
use Rattle.plan_json.specs.declared.words.PlanPart.TheVariants as part

-- ---- operators

abbrev pub operator_named : List ℕ → Option Operator
operator_named s =
    if bytes_eq s (codes "==") then Some operator.Equal else
    (if bytes_eq s (codes "!=") then Some operator.Unequal else
    (if bytes_eq s (codes "<") then Some operator.Less else
    (if bytes_eq s (codes "<=") then Some operator.AtMost else
    (if bytes_eq s (codes ">") then Some operator.Greater else
    (if bytes_eq s (codes ">=") then Some operator.AtLeast else
    (if bytes_eq s (codes "begins with") then Some operator.Begins else
    (if bytes_eq s (codes "ends with") then Some operator.Ends else
    (if bytes_eq s (codes "contains") then Some operator.Contains else
    (if bytes_eq s (codes "in") then Some operator.Among else
    (if bytes_eq s (codes "not in") then Some operator.NotAmong else
    (if bytes_eq s (codes "is null") then Some operator.IsNull else
    (if bytes_eq s (codes "is not null") then Some operator.IsNotNull else None))))))))))))

abbrev pub is_words : CellType → Bool
is_words kinds.Words = true
is_words other = false

-- three operators are of texts alone, and the others of any column
abbrev pub takes_kind : Operator → CellType → Bool
takes_kind operator.Begins kind = is_words kind
takes_kind operator.Ends kind = is_words kind
takes_kind operator.Contains kind = is_words kind
takes_kind other kind = true

-- ---- values

-- a cell of the column's type that isn't null
abbrev pub given_cell : Result Cell RowCause → Option Cell
given_cell (Ok c) = if is_null c then None else Some c
given_cell (Err why) = None

abbrev pub cell_in : CellType → RawData → Option Cell
cell_in kind d = given_cell (cell_of kind d)

abbrev pub cell_value : CellType → Option RawData → Option Cell
cell_value kind None = None
cell_value kind (Some d) = cell_in kind d

-- a text that a cell may have
abbrev pub text_value : Option RawData → Option (List ℕ)
text_value (Some (raw_words s)) = if nat_lt max_text (length s) then None else Some s
text_value other = None

-- a list of such cells
abbrev pub cells_value : CellType → Option RawData → Option (List Cell)
cells_value kind (Some (raw_list ds)) = each (cell_in kind) ds
cells_value kind other = None

-- none, or null
abbrev pub is_left_out : Option RawData → Bool
is_left_out None = true
is_left_out (Some raw_null) = true
is_left_out other = false

abbrev pub if_left_out : FilterTest → Option RawData → Option FilterTest
if_left_out test value = if is_left_out value then Some test else None

abbrev pub test_of : Operator → CellType → Option RawData → Option FilterTest
test_of operator.Equal kind value = option_map test.Equal (cell_value kind value)
test_of operator.Unequal kind value = option_map test.Unequal (cell_value kind value)
test_of operator.Less kind value = option_map test.Less (cell_value kind value)
test_of operator.AtMost kind value = option_map test.AtMost (cell_value kind value)
test_of operator.Greater kind value = option_map test.Greater (cell_value kind value)
test_of operator.AtLeast kind value = option_map test.AtLeast (cell_value kind value)
test_of operator.Begins kind value = option_map test.Begins (text_value value)
test_of operator.Ends kind value = option_map test.Ends (text_value value)
test_of operator.Contains kind value = option_map test.Contains (text_value value)
test_of operator.Among kind value = option_map test.Among (cells_value kind value)
test_of operator.NotAmong kind value = option_map test.NotAmong (cells_value kind value)
test_of operator.IsNull kind value = if_left_out test.IsNull value
test_of operator.IsNotNull kind value = if_left_out test.IsNotNull value

-- ---- filters

-- the column and the operator of filter i: `unknown`, `operator`, and then `type` of the two
abbrev pub asked_at : List Column → ℕ → RawFilterData → Result (ColumnPlace × Operator) PlanFault
asked_at columns i f =
    and_then (known columns part.Filter i f.name) (λ place.
    and_then (found (fault part.Filter cause.Operator (One i)) (operator_named f.operator)) (λ op.
    unless (not (takes_kind op place.kind)) (fault part.Filter cause.BadType (One i)) (Ok (place, op))))

-- and then `value`
abbrev pub filter_at : List Column → ℕ → RawFilterData → Result Filter PlanFault
filter_at columns i f =
    and_then (asked_at columns i f) (λ asked.
    and_then (found (fault part.Filter cause.Value (One i)) (test_of asked.1 asked.0.kind f.value)) (λ test.
    Ok (record { column = asked.0.number; test = test })))

abbrev pub filters_of : List Column → List RawFilterData → Result (List Filter) PlanFault
filters_of columns filters = at_most 32 part.Filter filters (read_each (filter_at columns) 0 filters)

-- whether a row has to meet every filter; left out it is `and`
abbrev pub every_named : List ℕ → Result Bool PlanFault
every_named s =
    if bytes_eq s (codes "and") then Ok true else
    (if bytes_eq s (codes "or") then Ok false else Err (fault part.FilterOp cause.Name Zero))

abbrev pub every_of : Option (List ℕ) → Result Bool PlanFault
every_of None = Ok true
every_of (Some s) = every_named s
