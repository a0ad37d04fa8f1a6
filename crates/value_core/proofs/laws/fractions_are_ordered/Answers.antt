use Rattle.value_core.specs.FractionLaws.{fraction_order_total, fraction_order-exact}
use Rattle.value_core.proofs.laws.fractions_are_ordered.Goals as goal

pub returns-clause-total : goal.returns-clause-total
returns-clause-total c = fraction_order_total

pub returns-clause-exact : goal.returns-clause-exact
returns-clause-exact c = fraction_order-exact
