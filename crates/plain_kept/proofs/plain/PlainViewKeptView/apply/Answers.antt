use Rattle.std.proofs.Common.{◌≡◌, ap, ◌∙◌}
use Rattle.view_spec.specs.Openings.{Opening}
use Rattle.view_spec.specs.Views.{placed}
use Rattle.plan_types.specs.declared.plan.Plan.{Plan}
use Rattle.view_kept.specs.Steps.{side_at, side_of}
use Rattle.plain_kept.specs.Plain.{PlainData}
use Rattle.plain_kept.proofs.PlainLaws.{keys_between}
use Rattle.plain_kept.proofs.plain.PlainViewKeptView.apply.Goals as goal

pub returns-clause-keys : goal.returns-clause-keys
returns-clause-keys g c = λ s stood step.
    let plan : c.self.inside.plan ≡ s.plan = ap (λ (v : PlainData). v.plan) c.self.view_is ∙ stood.plan in
    let opening : c.self.inside.opening ≡ s.opening = ap (λ (v : PlainData). v.opening) c.self.view_is ∙ stood.opening in
    let now : c.in_ok-now.now.rows ≡ placed (side_at s c.args.table.now) =
    c.in_ok-now.ensures.rows ∙ ap (λ (p : Plan). placed (side_of p c.self.inside.opening c.args.table.now)) plan ∙ ap (λ (o : Opening). placed (side_of s.plan o c.args.table.now)) opening in
    keys_between s (side_at s c.args.table.now) c.self.inside.shown.rows c.in_ok-now.now.rows c.in_ok-touched_now.field-0.keys
    (ap (λ (v : PlainData). v.shown.rows) c.self.view_is ∙ stood.rows) now c.in_ok-touched_now.ensures.keys
