use Rattle.std.proofs.Common.{sym, ap, ◌∙◌, ℕ}
use Rattle.agg_core.specs.Aggregates.{last_of}
use Rattle.std.specs.Option.{option_map}
use Rattle.cell_core.specs.declared.cell.Cell.{Cell}
use Rattle.agg_core.proofs.Ends.{repeated-last}
use Rattle.agg_core.proofs.bag.Bag.greatest.Goals as goal

pub returns : goal.returns
returns c =
    let read = ap last_of (sym c.self.view_is) ∙ repeated-last c.self.inside.counts.entries c.self.invariant.some in
    sym (read ∙ ap (option_map (λ (e : Cell × ℕ). e.0)) c.in_ok-cell.ensures.last)
