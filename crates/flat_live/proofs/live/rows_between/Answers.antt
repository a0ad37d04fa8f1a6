use Rattle.std.proofs.Common.{◌-◌, ap, map, ◌∙◌}
use Rattle.std.proofs.lemmas.List.{take_all}
use Rattle.view_columns.specs.Headers.{under}
use Rattle.flat_live.specs.Rows.{shown_row}
use Rattle.flat_live.proofs.Windows.{window_shown}
use Rattle.flat_live.proofs.live.rows_between.Goals as goal

pub returns : goal.returns
returns c =
    c.loop-entry.invariant
    ∙ ap (map (λ e. shown_row (under c.args.columns.now c.args.plan.now) e.now)) (take_all c.loop-entry.entry-index c.deref-entry-items.result.now c.loop-entry-test.false ∙ c.deref-entry-items.ensures.value)
    ∙ window_shown (under c.args.columns.now c.args.plan.now) c.args.rows.now c.in_ok-part.part.items (c.args.to - c.args.from) c.args.from c.in_ok-part.ensures
