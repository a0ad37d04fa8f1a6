use Rattle.delta_core.proofs.Rests as rests
use Rattle.delta_core.proofs.laws.deltas_restore.Goals as goal

pub returns : goal.returns
returns g c = rests.deltas_restore _
