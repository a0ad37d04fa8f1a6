use Rattle.std.proofs.Common.{Ok, Err, Result, refl, arith}
use Rattle.std.specs.Prelude.{OnErr}
use Rattle.hub_views.specs.Keeping.{HoldsViews}
use Rattle.hub_views.proofs.Opening.{opened_is}
use Rattle.hub_views.proofs.views.Views.add.Goals as goal

on_err : {X E : Type 0} (P : Type 0) (r : Result X E) → P → OnErr r P
on_err P (Ok x) h = tt
on_err P (Err e) h = h

pub returns-in_err-push-clause-err : goal.returns-in_err-push-clause-err
unfolding HoldsViews
returns-in_err-push-clause-err g c = λ past h. on_err _ c.from_residual-in_err-push.result (rw c.in_err-push.ensures.items h)

pub returns-clause-ok : goal.returns-clause-ok
returns-clause-ok g c = λ past h table few.
    opened_is c.args.self.now _ past c.args.session c.args.bound c.saturating_add.result c.args.version c.args.plan c.args.table.now c.in_ok-rows.rows c.first_opening-opening.result c.in_ok-shown.shown c.new-live.result
    h table few (omega arith) c.in_ok-rows.ensures c.in_ok-shown.ensures c.first_opening-opening.ensures c.new-live.ensures c.in_ok-push.ensures.items c.saturating_add.ensures refl
