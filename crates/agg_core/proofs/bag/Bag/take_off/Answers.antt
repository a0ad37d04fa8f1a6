use Rattle.std.proofs.Common.{sym}
use Rattle.agg_core.proofs.Repeats.{one_counted, AreCounts-less, AreCounts-same}
use Rattle.agg_core.proofs.bag.Bag.take_off.Goals as goal

pub overflow_sub-self : goal.overflow_sub-self
overflow_sub-self c = one_counted c.args.cell.now _ _ c.self.invariant (sym c.if-count_out.ensures.there)

pub invariant_of-self : goal.invariant_of-self
invariant_of-self c =
    let e = c.if-count_out.ensures in
    AreCounts-less c.args.cell.now _ _ _ c.self.invariant (sym e.there) e.by_cell e.some e.repeated

pub invariant_of-self-else-count_out : goal.invariant_of-self-else-count_out
invariant_of-self-else-count_out c =
    let e = c.if-count_out.ensures in
    AreCounts-same c.args.cell.now _ _ _ c.self.invariant (sym e.there) e.by_cell e.some e.repeated
