-- The aggregates, one of which is chosen when it is made.
use Rattle.std.specs.Prelude.{List}
use Rattle.cell_core.specs.declared.cell.Cell.{Cell}
use Rattle.plan_types.specs.declared.aggregate.AggName.{AggName}
use Rattle.plan_types.specs.declared.aggregate.AggName.TheVariants as name
use Rattle.agg_core.specs.Bags.{IsBagOf}
use Rattle.agg_core.specs.Choices.{choice_name}
use Rattle.agg_core.specs.Counting.{IsCountOf}
use Rattle.agg_core.specs.Numbers.{IsTotalOf}
use Rattle.agg_core.specs.Rows.{AreRowsOf, end_name}
use Rattle.agg_core.specs.Standing.{ArePairs}
use Rattle.agg_core.specs.Sums.{counted, sum_name}
use Rattle.agg_core.specs.declared.any.AnyAggregate.{AnyAggregate}
use Rattle.agg_core.specs.declared.any.AnyAggregate.TheVariants as any

-- which aggregate it is
abbrev pub any_name : AnyAggregate → AggName
any_name (any.Rows it) = name.Count
any_name (any.Sum it) = sum_name it.form
any_name (any.Bag it) = choice_name it.choice
any_name (any.End it) = end_name it.end

-- the lists of pairs that it may stand for
abbrev pub any_stands : AnyAggregate → List (Cell × Cell) → Type 0
any_stands (any.Rows it) pairs = IsCountOf it.rows pairs
any_stands (any.Sum it) pairs = IsTotalOf (sum_name it.form) (counted it.form) it.total.sum it.total.count pairs
any_stands (any.Bag it) pairs = IsBagOf (choice_name it.choice) it.bag pairs
any_stands (any.End it) pairs = AreRowsOf (end_name it.end) it.rows pairs

-- they ascend by row key, and are not too long
pub any_pairs_of : (it : AnyAggregate) (pairs : List (Cell × Cell)) → any_stands it pairs → ArePairs (any_name it) pairs
any_pairs_of (any.Rows it) pairs h = h.are_pairs
any_pairs_of (any.Sum it) pairs h = h.are_pairs
any_pairs_of (any.Bag it) pairs h = h.are_pairs
any_pairs_of (any.End it) pairs h = h.are_pairs
