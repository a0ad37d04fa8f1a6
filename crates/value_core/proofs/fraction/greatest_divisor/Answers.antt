use Rattle.std.proofs.Common.{arith}
use Rattle.value_core.proofs.DivisorSteps.{IsGreatestDivisor-from_zero, IsGreatestDivisor-from_mod}
use Rattle.value_core.proofs.fraction.greatest_divisor.Goals as goal

pub loop-rest-preserved : goal.loop-rest-preserved
loop-rest-preserved c g h = c.loop-rest.invariant g (IsGreatestDivisor-from_mod _ _ g h)

pub returns : goal.returns
returns c = c.loop-rest.invariant _ (IsGreatestDivisor-from_zero _ _ (omega arith))
