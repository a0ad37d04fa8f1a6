-- What each aggregate is of a group's cells, which stand in the order of row keys.
use Rattle.std.specs.Prelude.{ℕ, ◌-◌, ◌/◌, nat_lt, ◌==◌, Bool, true, false, List, [], ◌∷◌, map, length, slice_get, ℤ, pos, ◌+ℤ◌, unsigned_abs, Option, Some, None, if◌then◌else◌}
use Rattle.std.specs.Option.{option_map}
use Rattle.std.specs.List.{filter, filter_map, reduce, count_by}
use Rattle.std.specs.Set.{distinct_count}
use Rattle.plain_data.specs.Sorting.{sorted_by}
use Rattle.value_core.specs.declared.value.Value.{Value}
use Rattle.value_core.specs.declared.value.Value.TheVariants as value
use Rattle.cell_core.specs.declared.cell.Cell.{Cell}
use Rattle.cell_core.specs.declared.cell.Cell.TheVariants as cell
use Rattle.cell_core.specs.Cells.{cell_order, same_cell, value_of}
use Rattle.plan_types.specs.declared.aggregate.AggName.{AggName}
use Rattle.plan_types.specs.declared.aggregate.AggName.TheVariants as name
use Rattle.agg_core.specs.Fractions.{fraction_over}

-- ---- the others

-- whether a cell isn't null
abbrev pub is_other : Cell → Bool
is_other cell.Null = false
is_other _ = true

-- the cells that aren't null
abbrev pub others : List Cell → List Cell
others cells = filter is_other cells

-- the others in the order of cells
abbrev pub ascending : List Cell → List Cell
ascending cells = sorted_by cell_order (others cells)

-- the whole number of an integer cell
abbrev pub number_in : Cell → Option ℤ
number_in (cell.Int n) = Some n
number_in _ = None

-- the others of an integer column, as whole numbers
abbrev pub numbers : List Cell → List ℤ
numbers cells = filter_map number_in cells

-- ---- sums

-- the sum of some numbers
abbrev pub sum_of : List ℤ → ℤ
sum_of [] = pos 0
sum_of (n ∷ ns) = n +ℤ sum_of ns

-- how far a number is from 0
abbrev pub size_of : ℤ → ℤ
size_of n = pos (unsigned_abs n)

-- a whole number, and none where there are no numbers that it is of
abbrev pub whole_of : List ℤ → ℤ → Option Value
whole_of [] n = None
whole_of (_ ∷ _) n = Some (value.Whole n)

-- the sum of some numbers over how many they are, in its lowest terms
abbrev pub mean : List ℤ → Option Value
mean ns = option_map value.Fraction (fraction_over (sum_of ns) (length ns))

-- ---- choices

-- the value that a cell shows, and none where there is no cell
abbrev pub shown : Option Cell → Option Value
shown None = None
shown (Some cell) = value_of cell

-- the last cell
abbrev pub last_of : List Cell → Option Cell
last_of cells = slice_get cells (length cells - 1)

-- how many different cells
abbrev pub different : List Cell → ℕ
different cells = distinct_count same_cell cells

-- the cell where all are the same
abbrev pub only_one : List Cell → Option Cell
only_one cells = if different cells == 1 then slice_get cells 0 else None

-- how many of the cells are this one
abbrev pub times_in : List Cell → Cell → ℕ
times_in cells cell = count_by (same_cell cell) cells

-- the second where it stands in the list more often
abbrev pub more_frequent : List Cell → Cell → Cell → Cell
more_frequent cells first second = if nat_lt (times_in cells first) (times_in cells second) then second else first

-- of an ascending list the most frequent cell, and the least of these on a tie
abbrev pub most_frequent : List Cell → Option Cell
most_frequent cells = reduce (more_frequent cells) cells

-- of an ascending list the middle, and the lower of two
abbrev pub middle : List Cell → Option Cell
middle cells = slice_get cells ((length cells - 1) / 2)

-- ---- the aggregates

-- what an aggregate is of a group's cells
abbrev pub aggregate : AggName → List Cell → Option Value
aggregate name.Sum cells = whole_of (numbers cells) (sum_of (numbers cells))
aggregate name.AbsSum cells = whole_of (numbers cells) (size_of (sum_of (numbers cells)))
aggregate name.SumAbs cells = whole_of (numbers cells) (sum_of (map size_of (numbers cells)))
aggregate name.Count cells = Some (value.Whole (pos (length cells)))
aggregate name.DistinctCount cells = Some (value.Whole (pos (different (ascending cells))))
aggregate name.Mean cells = mean (numbers cells)
aggregate name.Avg cells = mean (numbers cells)
aggregate name.Min cells = shown (slice_get (ascending cells) 0)
aggregate name.Max cells = shown (last_of (ascending cells))
aggregate name.Unique cells = shown (only_one (ascending cells))
aggregate name.First cells = shown (slice_get cells 0)
aggregate name.Last cells = shown (last_of cells)
aggregate name.Dominant cells = shown (most_frequent (ascending cells))
aggregate name.Median cells = shown (middle (ascending cells))
