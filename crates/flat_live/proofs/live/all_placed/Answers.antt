use Rattle.std.proofs.Common.{ap, map, ◌∙◌}
use Rattle.std.proofs.lemmas.List.{take_all}
use Rattle.view_columns.specs.Headers.{under}
use Rattle.flat_live.specs.Rows.{as_placed}
use Rattle.flat_live.proofs.Windows.{all_placed}
use Rattle.flat_live.proofs.live.all_placed.Goals as goal

pub returns : goal.returns
returns c =
    c.loop-entry.invariant
    ∙ ap (map (λ e. as_placed (under c.args.columns.now c.args.plan.now) e.now)) (take_all c.loop-entry.entry-index c.deref-entry-items.result.now c.loop-entry-test.false ∙ c.deref-entry-items.ensures.value)
    ∙ all_placed (under c.args.columns.now c.args.plan.now) c.args.rows.now c.in_ok-all.all.items c.len.result c.len.ensures.value c.in_ok-all.ensures
