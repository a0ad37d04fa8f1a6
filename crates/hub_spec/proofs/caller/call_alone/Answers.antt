use Rattle.std.proofs.Common.{◌∙◌}
use Rattle.hub_spec.proofs.Calling.{steps_alone}
use Rattle.hub_spec.proofs.caller.call_alone.Goals as goal

pub returns-clause-steps : goal.returns-clause-steps
returns-clause-steps g c h s = steps_alone _ _ _ _ _ _ _ c.requires.alone (c.call.ensures.calls h s)

pub returns-clause-alone : goal.returns-clause-alone
returns-clause-alone g c s = c.call.ensures.speaks s ∙ c.requires.alone s
