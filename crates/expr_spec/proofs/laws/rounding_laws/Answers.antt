use Rattle.expr_spec.proofs.RoundingLemmas.{floor_div-rounds, multiple_below}
use Rattle.expr_spec.proofs.laws.rounding_laws.Goals as goal

pub returns-clause-quotient : goal.returns-clause-quotient
returns-clause-quotient c = floor_div-rounds

pub returns-clause-bucket : goal.returns-clause-bucket
returns-clause-bucket c = multiple_below
