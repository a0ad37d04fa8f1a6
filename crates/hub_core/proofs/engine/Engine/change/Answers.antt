use Rattle.hub_views.specs.Changing.{asked_by}
use Rattle.hub_core.proofs.Giving.{views_end, views_give}
use Rattle.hub_core.proofs.engine.Engine.change.Goals as goal

pub returns-clause-gives : goal.returns-clause-gives
returns-clause-gives g c = λ past h few.
    let e = c.args.self.now in
    views_give e.table e.version e.ports e.views _ past c.args.session 0 (asked_by c.args.view c.args.change) _ h (c.change.ensures.about 0)
    (c.change.ensures.gives e.version past (h.views, h.table) few)

pub returns-clause-ends : goal.returns-clause-ends
returns-clause-ends g c = let e = c.args.self.now in views_end e.version _ (c.change.ensures.about e.version)
