use Rattle.hub_core.specs.Standing.{StandsFor}
use Rattle.hub_core.proofs.hub.Hub.entries.Goals as goal

pub returns : goal.returns
unfolding StandsFor
returns c = λ h s. s.entries
