use Rattle.std.proofs.Common.{List, false, drop, is_some, ap, sym, subst, ◌∙◌}
use Rattle.view_types.specs.declared.key.ViewKey.{ViewKey}
use Rattle.delta_core.specs.DirtySets.{with_touched}
use Rattle.delta_core.specs.declared.touched.Touch.{Touch}
use Rattle.view_columns.specs.Headers.{under}
use Rattle.flat_live.specs.Rows.{TellsNew}
use Rattle.flat_live.proofs.Compares.{new_known, new_noted}
use Rattle.flat_live.proofs.Options.{copied_some, ok_map}
use Rattle.flat_live.proofs.comparing.note_new.Goals as goal

pub returns-then-is_some : goal.returns-then-is_some
returns-then-is_some c =
    new_known (under c.args.was.now.columns c.args.was.now.plan) (under c.args.now.now.columns c.args.now.now.plan) c.args.was.now.rows c.args.now.now.rows c.in-Some.entry.now c.args.at c.args.touched.now c.len-count.ensures.live.differ (sym c.in-Some.ensures) c.requires.tells
    (ap is_some (sym c.get.ensures) ∙ copied_some c.get.result ∙ sym c.is_some.ensures ∙ c.if-is_some.true)

pub returns : goal.returns
returns c =
    ok_map c.add.result
    (λ h. subst (λ (es : List (ViewKey × Touch)). TellsNew (under c.args.was.now.columns c.args.was.now.plan) (under c.args.now.now.columns c.args.now.now.plan) c.args.was.now.rows c.args.now.now.rows (drop c.args.at c.args.now.now.rows) es)
    (sym (h ∙ ap (λ z. with_touched c.args.touched.now (z, record { was_shown = false })) c.in_ok-copy.ensures))
    (new_noted (under c.args.was.now.columns c.args.was.now.plan) (under c.args.now.now.columns c.args.now.now.plan) c.args.was.now.rows c.args.now.now.rows c.in-Some.entry.now c.args.at c.args.touched.now c.len-count.ensures.live.differ (sym c.in-Some.ensures) c.requires.tells
    (ap is_some (sym c.get.ensures) ∙ copied_some c.get.result ∙ sym c.is_some.ensures ∙ c.if-is_some.false)))
    c.add.ensures.ok
