use Rattle.std.proofs.Common.{refl}
use Rattle.frame_types.specs.Asks as ask
use Rattle.hub_spec.proofs.Giving.{err_body}
use Rattle.hub_views.proofs.Told.{asked_is_refused, taken_gives, views_are_wanted}
use Rattle.hub_views.proofs.views.Views.take.Goals as goal

pub returns-in_err-live-clause-gives : goal.returns-in_err-live-clause-gives
returns-in_err-live-clause-gives c = λ t wait past h few.
    let a = c.args in
    rw (err_body _ _ c.from_residual.ensures) (asked_is_refused a.self.now t past a.session a.view (ask.take a.view wait) _ _ h.0 c.in_err-live.ensures refl)

pub returns-in_default-clause-gives : goal.returns-in_default-clause-gives
returns-in_default-clause-gives c = λ t wait past h few.
    let a = c.args in
    rw c.memory.ensures (views_are_wanted a.self.now t past a.session (ask.take a.view wait) h.0 refl)

pub returns-clause-gives : goal.returns-clause-gives
returns-clause-gives c = λ t wait past h few.
    let a = c.args in
    taken_gives a.self.now _ t past a.session a.view a.version wait c.in_ok-live.live.now c.in-Ok.answer h.0 h.1 c.in_ok-live.ensures c.in-Ok.ensures.value refl c.rebase.ensures
