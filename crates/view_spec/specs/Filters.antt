-- Which rows filters keep.
use Rattle.std.specs.Prelude.{ℕ, nat_eq, List, Bool, true, false, not, ◌||◌, slice_index_or, if◌then◌else◌}
use Rattle.std.specs.List.{list_all, list_any, starts_with, ends_with}
use Rattle.std.specs.Ordering.{is_eq, is_ne, is_lt, is_le, is_gt, is_ge}
use Rattle.plain_data.specs.Lists.{is_empty}
use Rattle.cell_core.specs.Cells.{cell_order, same_cell}
use Rattle.cell_core.specs.declared.cell.Cell.{Cell}
use Rattle.cell_core.specs.declared.cell.Cell.TheVariants.{Null, Words}
use Rattle.row_batch.specs.Checks.{is_null}
use Rattle.expr_spec.specs.Values.{stands_within}
use Rattle.plan_types.specs.declared.plan.Filter.{Filter}
use Rattle.plan_types.specs.declared.plan.Filters.{Filters}
use Rattle.plan_types.specs.declared.plan.FilterTest.{FilterTest}
use Rattle.plan_types.specs.declared.plan.FilterTest.TheVariants as test

-- the cell of a column; a row has no cell past its last
abbrev pub cell_in : List Cell → ℕ → Cell
cell_in row column = slice_index_or row column Null

abbrev pub on_words : (List ℕ → Bool) → Cell → Bool
on_words passes (Words s) = passes s
on_words passes other = false

-- of a cell that isn't null
abbrev pub passes : FilterTest → Cell → Bool
passes (test.Equal v) c = is_eq (cell_order c v)
passes (test.Unequal v) c = is_ne (cell_order c v)
passes (test.Less v) c = is_lt (cell_order c v)
passes (test.AtMost v) c = is_le (cell_order c v)
passes (test.Greater v) c = is_gt (cell_order c v)
passes (test.AtLeast v) c = is_ge (cell_order c v)
passes (test.Begins t) c = on_words (λ s. starts_with nat_eq s t) c
passes (test.Ends t) c = on_words (λ s. ends_with nat_eq s t) c
passes (test.Contains t) c = on_words (λ s. stands_within t s) c
passes (test.Among vs) c = list_any (same_cell c) vs
passes (test.NotAmong vs) c = not (list_any (same_cell c) vs)
passes test.IsNull c = false
passes test.IsNotNull c = true

abbrev pub asks_null : FilterTest → Bool
asks_null test.IsNull = true
asks_null other = false

-- null meets `is null` alone, and no other cell does
abbrev pub is_met : FilterTest → Cell → Bool
is_met t c = if is_null c then asks_null t else passes t c

abbrev pub meets : List Cell → Filter → Bool
meets row f = is_met f.test (cell_in row f.column)

abbrev pub meets_one : List Cell → List Filter → Bool
meets_one row filters = is_empty filters || list_any (meets row) filters

-- every filter, or at least one; an empty list keeps all
abbrev pub keeps : Filters → List Cell → Bool
keeps filters row = if filters.every then list_all (meets row) filters.list else meets_one row filters.list
