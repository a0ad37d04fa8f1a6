use Rattle.std.proofs.Common.{ap, ◌∙◌}
use Rattle.view_kept.specs.Steps.{side_of}
use Rattle.plain_kept.specs.Plain.{PlainData}
use Rattle.plain_kept.specs.declared.keyed.KeyedView.{KeyedView}
use Rattle.plain_kept.proofs.PlainLaws.{keys_between}
use Rattle.plain_kept.proofs.plain.PlainViewKeptView.reshape.Goals as goal

pub returns-clause-keys : goal.returns-clause-keys
returns-clause-keys g c = λ s stood step.
    keys_between s (side_of c.args.plan c.args.opening.now c.args.table.now) c.self.inside.shown.rows c.keyed.result.now.rows c.in_ok-touched_now.field-0.keys
    (ap (λ (v : PlainData). v.shown.rows) c.self.view_is ∙ stood.rows) (ap (λ (v : KeyedView). v.rows) c.keyed.ensures ∙ c.in_ok-other.ensures.rows) c.in_ok-touched_now.ensures.keys
