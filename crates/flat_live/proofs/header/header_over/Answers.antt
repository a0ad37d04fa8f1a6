use Rattle.std.proofs.Common.{ap, ◌∙◌}
use Rattle.view_columns.specs.Headers.{each_under}
use Rattle.view_spec.specs.Kept.{kept}
use Rattle.view_spec.specs.Members.{splits}
use Rattle.flat_live.proofs.header.header_over.Goals as goal

pub returns : goal.returns
returns c = λ pairs h keys.
    c.header_of.ensures c.args.columns.now c.args.plan.now (splits c.args.plan.now (kept c.args.plan.now pairs))
    (c.deref.ensures.value ∙ c.in_ok-made.ensures ∙ ap (each_under c.args.columns.now c.args.plan.now) (c.in_ok-paths.ensures pairs h keys))
