use Rattle.std.proofs.Common.{refl, sym, ap, ◌∙◌, arith}
use Rattle.std.proofs.lemmas.Bool.{le-leb, lt-leb}
use Rattle.cell_core.specs.RawViews.{raw_view}
use Rattle.cell_core.specs.Schemas.{SchemaData}
use Rattle.frame_types.specs.Asks as ask
use Rattle.hub_spec.specs.Plans.{plan_asked}
use Rattle.hub_views.proofs.AskedPlans.{asked_fits}
use Rattle.hub_views.proofs.Told.{open_is_full, opened_gives, plan_is_refused, views_are_wanted}
use Rattle.hub_views.proofs.views.Views.open.Goals as goal

pub returns-in-Ok-Err-clause-gives : goal.returns-in-Ok-Err-clause-gives
returns-in-Ok-Err-clause-gives g c = λ past h few.
    let a = c.args in
    plan_is_refused a.self.now a.table.now past a.session a.bound a.version (raw_view a.plan.now) c.in-Ok-Err.why h.0 h.1
    (ap (λ (s : SchemaData). plan_asked s (raw_view a.plan.now)) (sym c.schema.ensures) ∙ sym c.in-Ok-Err.ensures ∙ c.in-Ok-Err.field-0-is)

pub returns-in-Err-clause-gives : goal.returns-in-Err-clause-gives
returns-in-Err-clause-gives g c = λ past h few.
    let a = c.args in
    rw c.memory.ensures (views_are_wanted a.self.now a.table.now past a.session (ask.open_view (raw_view a.plan.now) a.bound) h.0 refl)

pub returns-then-len-ge-MAX_VIEWS-clause-gives : goal.returns-then-len-ge-MAX_VIEWS-clause-gives
returns-then-len-ge-MAX_VIEWS-clause-gives g c = λ past h few.
    let a = c.args in
    rw c.too_many_views.ensures
    (open_is_full a.self.now a.table.now past a.session a.bound a.version (raw_view a.plan.now) c.in-Ok-Ok.plan h.0 h.1
    (ap (λ (s : SchemaData). plan_asked s (raw_view a.plan.now)) (sym c.schema.ensures) ∙ sym c.in-Ok-Ok.ensures ∙ c.in-Ok-Ok.field-0-is) (le-leb 16 _ (omega arith)))

pub add-requires-clause-fits : goal.add-requires-clause-fits
add-requires-clause-fits g c =
    let a = c.args in
    asked_fits a.table.now.schema (raw_view a.plan.now) c.in-Ok-Ok.plan (sym c.in-Ok-Ok.field-0-is ∙ c.in-Ok-Ok.ensures ∙ ap (λ (s : SchemaData). plan_asked s (raw_view a.plan.now)) c.schema.ensures)

pub returns-in-Ok-clause-gives : goal.returns-in-Ok-clause-gives
returns-in-Ok-clause-gives g c = λ past h few.
    let a = c.args in
    opened_gives a.self.now c.add.new.self a.table.now past a.session a.bound a.version (raw_view a.plan.now) c.in-Ok-Ok.plan c.in-Ok.answer h.0 h.1
    (ap (λ (s : SchemaData). plan_asked s (raw_view a.plan.now)) (sym c.schema.ensures) ∙ sym c.in-Ok-Ok.ensures ∙ c.in-Ok-Ok.field-0-is) (lt-leb 16 _ (omega arith)) (c.in-Ok.ensures.ok past h.0 h.1 few)

pub returns-in-Err-add-clause-gives : goal.returns-in-Err-add-clause-gives
returns-in-Err-add-clause-gives g c = λ past h few.
    let a = c.args in
    rw c.memory-in-Err-add.ensures
    (views_are_wanted c.add.new.self a.table.now past a.session (ask.open_view (raw_view a.plan.now) a.bound) (c.in-Err-add.ensures.err past h.0) refl)
