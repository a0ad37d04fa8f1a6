use Rattle.std.proofs.Common.{sym, ap, ◌∙◌}
use Rattle.agg_core.specs.Aggregates.{different}
use Rattle.agg_core.proofs.Ends.{repeated-different}
use Rattle.agg_core.proofs.bag.Bag.different.Goals as goal

pub returns : goal.returns
returns c =
    c.len.ensures.len ∙ sym (repeated-different c.self.inside.counts.entries c.self.invariant.by_cell c.self.invariant.some) ∙ ap different c.self.view_is
