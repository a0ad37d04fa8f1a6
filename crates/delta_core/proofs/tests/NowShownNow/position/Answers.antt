use Rattle.std.proofs.Common.{◌∙◌, ap}
use Rattle.delta_core.specs.Rows.{position_of}
use Rattle.delta_core.proofs.ShownKeys.{position_is}
use Rattle.delta_core.proofs.tests.NowShownNow.position.Goals as goal

pub returns-clause-position : goal.returns-clause-position
returns-clause-position c =
    c.place_of.ensures ∙ position_is c.args.key.now c.as_slice.result.now ∙ ap (position_of c.args.key.now) c.as_slice.ensures.rows
