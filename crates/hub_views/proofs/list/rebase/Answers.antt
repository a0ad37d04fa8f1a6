use Rattle.std.proofs.Common.{set, sym, ap, ◌∙◌}
use Rattle.std.proofs.lemmas.List.Edits.{map_over_more}
use Rattle.hub_views.specs.Live.{rebased_at}
use Rattle.hub_views.proofs.list.rebase.Goals as goal

pub loop-view-preserved : goal.loop-view-preserved
loop-view-preserved c =
    let one = rebased_at c.args.session c.args.number c.args.mark in
    let views = c.loop-view.view-items in
    let i = c.loop-view.view-index in
    let item = c.view-item.result in
    ap (set views i) c.rebase_at.ensures ∙ ap (λ v. set views i (one v)) (sym c.view-item.is)
    ∙ map_over_more one c.deref_mut-view-items.result.now views i item c.loop-view-test.true c.loop-view.invariant c.view-item.is
