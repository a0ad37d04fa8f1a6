use Rattle.agg_core.proofs.Fractions.{fraction_over-some}
use Rattle.agg_core.proofs.laws.fractions_are_lowest.Goals as goal

pub returns : goal.returns
returns c = fraction_over-some
