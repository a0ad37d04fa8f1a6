-- Which lists of pairs an aggregate may stand for.
use Rattle.std.specs.Prelude.{◌≡◌, ◌<◌, ◌≤◌, List, length, None, All}
use Rattle.std.specs.List.Sorted.{IsStrictlySortedBy}
use Rattle.std.specs.Map.{keys_of}
use Rattle.cell_core.specs.Cells.{cell_order}
use Rattle.cell_core.specs.Limits.{max_rows}
use Rattle.cell_core.specs.declared.cell.Cell.{Cell}
use Rattle.plan_types.specs.declared.aggregate.AggName.{AggName}
use Rattle.agg_core.specs.Pairs.{cells_of, cell_at}
use Rattle.agg_core.specs.Types.{IsTaken}

-- at most as many pairs as a table has rows, ascending by row key, each with a cell that the aggregate takes
pub record ArePairs (name : AggName) (pairs : List (Cell × Cell)) : Type 0 where
  pub by_key : IsStrictlySortedBy cell_order (keys_of pairs)
  pub few : length pairs ≤ max_rows
  pub taken : All (IsTaken name) (cells_of pairs)

-- the pair may be put to the others: its row key isn't there, there is room, and the aggregate takes its cell
pub record CanAdd (name : AggName) (pairs : List (Cell × Cell)) (key cell : Cell) : Type 0 where
  pub absent : cell_at pairs key ≡ None
  pub room : length pairs < max_rows
  pub taken : IsTaken name cell
