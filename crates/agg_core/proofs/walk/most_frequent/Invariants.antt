use Rattle.std.proofs.Common.{◌≡◌}
use Rattle.std.specs.Option.{option_copied}
use Rattle.agg_core.specs.Aggregates.{most_frequent}
use Rattle.agg_core.specs.Bags.{repeated}
use Rattle.agg_core.proofs.Walks.{best_from, AreTimes, IsBest}
use Rattle.agg_core.proofs.walk.most_frequent.Given as goal

abbrev pub invariant-loop-cell : goal.invariant-loop-cell
invariant-loop-cell l = record {
  going_on : most_frequent (repeated l.counts.entries) ≡ best_from (repeated l.counts.entries) (option_copied l.best) (repeated l.cell-iterator);
  is_best : IsBest (repeated l.counts.entries) (option_copied l.best) l.most;
  times : AreTimes (repeated l.counts.entries) l.cell-iterator;
}
