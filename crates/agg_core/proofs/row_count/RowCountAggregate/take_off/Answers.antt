use Rattle.std.proofs.Common.{arith}
use Rattle.plan_types.specs.declared.aggregate.AggName.TheVariants as name
use Rattle.agg_core.proofs.PairLists.{ArePairs-without_key, length-without_key}
use Rattle.agg_core.proofs.row_count.RowCountAggregate.take_off.Goals as goal

pub returns-clause-stands : goal.returns-clause-stands
returns-clause-stands c pairs is there = record {
  are_pairs = ArePairs-without_key name.Count pairs _ _ is.are_pairs there;
  count = let shorter = length-without_key pairs c.args._key.now c.args._cell.now there in let count = is.count in omega arith;
}
