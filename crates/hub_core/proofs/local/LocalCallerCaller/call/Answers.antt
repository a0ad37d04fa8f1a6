use Rattle.std.proofs.Common.{[], refl}
use Rattle.hub_core.proofs.local.LocalCallerCaller.call.Goals as goal

pub returns-clause-calls : goal.returns-clause-calls
returns-clause-calls c h s = record { others = []; foreign = refl; step = c.counted_step.ensures.steps h s }
