use Rattle.std.proofs.Common.{◌<◌, length}
use Rattle.cell_core.specs.Limits.{max_rows}
use Rattle.agg_core.specs.Bags.{repeated}
use Rattle.agg_core.proofs.Repeats.{count_small, AreCounts-more}
use Rattle.agg_core.proofs.bag.Bag.add.Goals as goal

pub count_in-requires : goal.count_in-requires
count_in-requires c =
    let room : length (repeated c.self.inside.counts.entries) < max_rows = rw c.self.view_is c.requires in
    count_small c.args.cell.now c.self.inside.counts.entries room

pub invariant_of-self-2 : goal.invariant_of-self-2
invariant_of-self-2 c = AreCounts-more c.args.cell.now _ _ c.self.inside.count c.self.invariant c.in_ok-count_in.ensures.by_cell (c.in_ok-count_in.ensures.some c.self.invariant.some) c.in_ok-count_in.ensures.ok
