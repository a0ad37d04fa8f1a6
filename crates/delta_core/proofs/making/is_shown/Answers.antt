use Rattle.std.proofs.Common.{ap, ◌∙◌, is_some}
use Rattle.delta_core.proofs.ShownKeys.{position_has}
use Rattle.delta_core.proofs.making.is_shown.Goals as goal

pub returns : goal.returns
returns g c = c.is_some.ensures ∙ ap is_some c.position.ensures.position ∙ position_has c.args.key.now (g.V.ShownNow.shown c.args.view.now).rows
