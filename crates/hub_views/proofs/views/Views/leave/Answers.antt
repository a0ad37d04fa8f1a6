use Rattle.std.proofs.Common.{refl, ap, ◌∙◌, eqb, filter, length}
use Rattle.hub_views.specs.declared.view.View.{View}
use Rattle.hub_views.proofs.Told.{left_gives}
use Rattle.hub_views.proofs.views.Views.leave.Goals as goal

pub returns-clause-gives : goal.returns-clause-gives
returns-clause-gives c = λ t past h few.
    let a = c.args in
    left_gives a.self.now _ t past a.session _ h (c.count_views-closed.ensures ∙ ap (λ vs. length (filter (λ (v : View). eqb v.session a.session) vs)) c.as_slice.ensures.value) refl c.drop_views.ensures
