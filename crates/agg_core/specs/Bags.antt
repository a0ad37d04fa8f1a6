-- Cells as they stand in a bag: the others, ascending, each as often as it was put in.
use Rattle.std.specs.Prelude.{◌≡◌, ℕ, ◌<◌, List, length, replicate, All, if◌then◌else◌}
use Rattle.std.specs.List.{flat_map}
use Rattle.std.specs.List.Sorted.{IsStrictlySortedBy}
use Rattle.std.specs.Map.{keys_of, values_of}
use Rattle.std.specs.Set.{remove_key}
use Rattle.plain_data.specs.Sorting.{insert_by}
use Rattle.cell_core.specs.Cells.{cell_order, same_cell}
use Rattle.cell_core.specs.declared.cell.Cell.{Cell}
use Rattle.plan_types.specs.declared.aggregate.AggName.{AggName}
use Rattle.agg_core.specs.Aggregates.{is_other, ascending}
use Rattle.agg_core.specs.Pairs.{cells_of}
use Rattle.agg_core.specs.Standing.{ArePairs}

-- with a cell in its place, unless it is null
abbrev pub with_other : List Cell → Cell → List Cell
with_other cells cell = if is_other cell then insert_by cell_order cell cells else cells

-- without one such cell, unless it is null
abbrev pub without_other : List Cell → Cell → List Cell
without_other cells cell = if is_other cell then remove_key (same_cell cell) cells else cells

-- each cell as often as its count says
abbrev pub repeated : List (Cell × ℕ) → List Cell
repeated counts = flat_map (λ e. replicate e.1 e.0) counts

-- the cells ascend, no count is 0, and there are so many cells in all
pub record AreCounts (counts : List (Cell × ℕ)) (count : ℕ) : Type 0 where
  pub by_cell : IsStrictlySortedBy cell_order (keys_of counts)
  pub some : All (λ n. 0 < n) (values_of counts)
  pub count_is : count ≡ length (repeated counts)

-- the bag has the others among the pairs' cells
pub record IsBagOf (name : AggName) (bag : List Cell) (pairs : List (Cell × Cell)) : Type 0 where
  pub are_pairs : ArePairs name pairs
  pub bag_is : bag ≡ ascending (cells_of pairs)
