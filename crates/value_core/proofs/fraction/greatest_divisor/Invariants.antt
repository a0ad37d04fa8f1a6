use Rattle.std.proofs.Common.{ℕ}
use Rattle.value_core.specs.Divisors.{IsGreatestDivisor}
use Rattle.value_core.proofs.fraction.greatest_divisor.Given as goal

abbrev pub invariant-loop-rest : goal.invariant-loop-rest
invariant-loop-rest l = (g : ℕ) → IsGreatestDivisor l.divisor l.rest g → IsGreatestDivisor l.fn.a l.fn.b g

abbrev pub decreases-loop-rest : goal.decreases-loop-rest
decreases-loop-rest l = l.rest
