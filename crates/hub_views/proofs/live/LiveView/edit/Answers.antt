use Rattle.std.proofs.Common.{sym, ap, ◌∙◌}
use Rattle.cell_core.specs.RawViews.{raw_view}
use Rattle.cell_core.specs.Schemas.{SchemaData}
use Rattle.hub_spec.specs.Plans.{plan_asked}
use Rattle.hub_views.proofs.AskedPlans.{asked_fits}
use Rattle.hub_views.proofs.GroupTests.{no_plan}
use Rattle.hub_views.proofs.live.LiveView.edit.Goals as goal

pub returns-in_err-plan : goal.returns-in_err-plan
returns-in_err-plan g c =
    let a = c.args in
    no_plan a.table.now.schema (raw_view a.plan.now) a.table.now a.self.now c.from_residual-in_err-plan.result c.in_err-plan.field-0.0 c.from_residual-in_err-plan.ensures
    (ap (λ (s : SchemaData). plan_asked s (raw_view a.plan.now)) (sym c.schema.ensures) ∙ sym c.in_ok-plan_asked.ensures ∙ c.in_err-plan.was)

pub replan-requires : goal.replan-requires
replan-requires g c =
    let a = c.args in
    asked_fits a.table.now.schema (raw_view a.plan.now) c.in_ok-plan.plan
    (sym c.in_ok-plan.was ∙ c.in_ok-plan_asked.ensures ∙ ap (λ (s : SchemaData). plan_asked s (raw_view a.plan.now)) c.schema.ensures)
