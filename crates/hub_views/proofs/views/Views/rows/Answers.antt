use Rattle.std.proofs.Common.{refl, arith}
use Rattle.std.proofs.lemmas.Bool.{lt-ltb, le-ltb}
use Rattle.frame_types.specs.Asks as ask
use Rattle.hub_spec.proofs.Giving.{err_body}
use Rattle.hub_views.proofs.Told.{asked_is_refused, shown_gives, views_are_wanted, window_is_refused}
use Rattle.hub_views.proofs.views.Views.rows.Goals as goal

pub returns-in_err-live-clause-gives : goal.returns-in_err-live-clause-gives
returns-in_err-live-clause-gives c = λ t past h few.
    let a = c.args in
    rw (err_body _ _ c.from_residual.ensures) (asked_is_refused a.self.now t past a.session a.view (ask.rows a.view a.from a.to) _ _ h c.in_err-live.ensures refl)

pub returns-then-to-from-clause-gives : goal.returns-then-to-from-clause-gives
returns-then-to-from-clause-gives c = λ t past h few.
    let a = c.args in
    rw c.bad_window.ensures (window_is_refused a.self.now t past a.session a.view a.from a.to _ h c.in_ok-live.ensures (lt-ltb a.to a.from (omega arith)))

pub returns-in_default-clause-gives : goal.returns-in_default-clause-gives
returns-in_default-clause-gives c = λ t past h few.
    let a = c.args in
    rw c.memory.ensures (views_are_wanted a.self.now t past a.session (ask.rows a.view a.from a.to) h refl)

pub returns-clause-gives : goal.returns-clause-gives
returns-clause-gives c = λ t past h few.
    let a = c.args in
    shown_gives a.self.now t past a.session a.view a.from a.to c.len.result c.in-Ok.shown c.in_ok-live.live.now h c.in_ok-live.ensures (le-ltb a.to a.from (omega arith)) c.in-Ok.ensures c.len.ensures
