use Rattle.std.proofs.Common.{arith}
use Rattle.plan_types.specs.declared.aggregate.AggName.TheVariants as name
use Rattle.agg_core.proofs.PairLists.{ArePairs-with_pair, length-with_pair}
use Rattle.agg_core.proofs.row_count.RowCountAggregate.add.Goals as goal

pub returns-clause-ok : goal.returns-clause-ok
returns-clause-ok c pairs is can = record {
  are_pairs = ArePairs-with_pair name.Count pairs _ _ is.are_pairs can;
  count = let longer = length-with_pair pairs _ c.args._cell.now can.absent in let count = is.count in omega arith;
}
