use Rattle.hub_core.proofs.Bare.{nothing_held}
use Rattle.hub_core.proofs.machine.Machine.new.Goals as goal

pub returns : goal.returns
returns c = nothing_held
