use Rattle.delta_core.proofs.Rests as rests
use Rattle.delta_core.proofs.laws.rests_are_equal.Goals as goal

pub returns : goal.returns
returns g c = rests.rests_are_equal _
