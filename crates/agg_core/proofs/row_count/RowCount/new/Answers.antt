use Rattle.std.proofs.Common.{refl}
use Rattle.plan_types.specs.declared.aggregate.AggName.TheVariants as name
use Rattle.agg_core.proofs.PairLists.{ArePairs-nil}
use Rattle.agg_core.proofs.row_count.RowCount.new.Goals as goal

pub returns : goal.returns
returns c = record { are_pairs = ArePairs-nil name.Count; count = refl }
