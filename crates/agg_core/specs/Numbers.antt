-- A running sum, and the numbers that it is of.
use Rattle.std.specs.Prelude.{◌≡◌, ℕ, ◌^◌, List, length, Option, Some, None, ℤ, pos, neg_ℤ, ◌+ℤ◌, ◌-ℤ◌, ◌<ℤ◌}
use Rattle.std.specs.Option.{option_map}
use Rattle.cell_core.specs.declared.cell.Cell.{Cell}
use Rattle.plan_types.specs.declared.aggregate.AggName.{AggName}
use Rattle.agg_core.specs.Aggregates.{number_in, size_of, sum_of}
use Rattle.agg_core.specs.Pairs.{cells_of}
use Rattle.agg_core.specs.Standing.{ArePairs}

-- less than 2 ^ 69 away from 0
abbrev pub IsSmallSum : ℤ → Type 0
IsSmallSum sum = (neg_ℤ (pos (2 ^ 69)) <ℤ sum) × (sum <ℤ pos (2 ^ 69))

-- the sum with a number more, where there is one
abbrev pub plus : ℤ → Option ℤ → ℤ
plus sum None = sum
plus sum (Some n) = n +ℤ sum

-- the sum without a number, where there is one
abbrev pub minus : ℤ → Option ℤ → ℤ
minus sum None = sum
minus sum (Some n) = sum -ℤ n

-- how far the number of a cell is from 0
abbrev pub size_in : Cell → Option ℤ
size_in cell = option_map size_of (number_in cell)

-- the sum and the count are those of the numbers that the pairs' cells give
pub record IsTotalOf (name : AggName) (numbers_of : List Cell → List ℤ) (sum : ℤ) (count : ℕ) (pairs : List (Cell × Cell)) : Type 0 where
  pub are_pairs : ArePairs name pairs
  pub sum_is : sum ≡ sum_of (numbers_of (cells_of pairs))
  pub count_is : count ≡ length (numbers_of (cells_of pairs))
