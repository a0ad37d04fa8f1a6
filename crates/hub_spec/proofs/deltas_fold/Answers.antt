use Rattle.hub_spec.proofs.Folding.{deltas_fold}
use Rattle.hub_spec.proofs.deltas_fold.Goals as goal

-- src/lib.rt:35:1
pub returns : goal.returns
returns c = deltas_fold
