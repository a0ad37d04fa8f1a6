use Rattle.std.proofs.Common.{sym, ap, ◌∙◌, ℕ}
use Rattle.std.proofs.Common.{slice_get, List}
use Rattle.std.specs.Option.{option_map}
use Rattle.cell_core.specs.declared.cell.Cell.{Cell}
use Rattle.agg_core.proofs.Ends.{repeated-first}
use Rattle.agg_core.proofs.bag.Bag.least.Goals as goal

pub returns : goal.returns
returns c =
    let read = ap (λ (cells : List Cell). slice_get cells 0) (sym c.self.view_is) ∙ repeated-first c.self.inside.counts.entries c.self.invariant.some in
    sym (read ∙ ap (option_map (λ (e : Cell × ℕ). e.0)) c.in_ok-cell.ensures.first)
