use Rattle.std.proofs.Common.{List, true, drop, ap, sym, subst, ◌∙◌}
use Rattle.view_types.specs.declared.key.ViewKey.{ViewKey}
use Rattle.delta_core.specs.DirtySets.{with_touched}
use Rattle.delta_core.specs.declared.touched.Touch.{Touch}
use Rattle.view_columns.specs.Headers.{under}
use Rattle.flat_live.specs.Rows.{TellsOld}
use Rattle.flat_live.proofs.Compares.{as_asked, old_differs, old_stays}
use Rattle.flat_live.proofs.Options.{ok_map}
use Rattle.flat_live.proofs.comparing.note_old.Goals as goal

pub returns-then-branch : goal.returns-then-branch
returns-then-branch c =
    old_stays (under c.args.was.now.columns c.args.was.now.plan) (under c.args.now.now.columns c.args.now.now.plan) c.args.was.now.rows c.args.now.now.rows c.in-Some.entry.now c.args.at c.args.touched.now c.len-count.ensures.live.differ (sym c.in-Some.ensures) c.requires.tells
    (as_asked _ _ _ _ c.args.was.now.plan c.args.now.now.plan c.in-Some.entry.now _ _ c.as_slice.ensures c.as_slice-2.ensures c.get-other.ensures ∙ sym c.in_ok-stays.ensures ∙ c.if-branch.true)

pub returns : goal.returns
returns c =
    ok_map c.add.result
    (λ h. subst (λ (es : List (ViewKey × Touch)). TellsOld (under c.args.was.now.columns c.args.was.now.plan) (under c.args.now.now.columns c.args.now.now.plan) c.args.was.now.rows c.args.now.now.rows (drop c.args.at c.args.was.now.rows) es)
    (sym (h ∙ ap (λ z. with_touched c.args.touched.now (z, record { was_shown = true })) c.in_ok-copy.ensures))
    (old_differs (under c.args.was.now.columns c.args.was.now.plan) (under c.args.now.now.columns c.args.now.now.plan) c.args.was.now.rows c.args.now.now.rows c.in-Some.entry.now c.args.at c.args.touched.now c.len-count.ensures.live.differ (sym c.in-Some.ensures) c.requires.tells
    (as_asked _ _ _ _ c.args.was.now.plan c.args.now.now.plan c.in-Some.entry.now _ _ c.as_slice.ensures c.as_slice-2.ensures c.get-other.ensures ∙ sym c.in_ok-stays.ensures ∙ c.if-branch.false)))
    c.add.ensures.ok
