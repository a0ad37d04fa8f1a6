use Rattle.value_core.specs.ValueLaws.{value_order_total, value_order-by_kind, value_order-exact}
use Rattle.value_core.proofs.laws.values_are_ordered.Goals as goal

pub returns-clause-total : goal.returns-clause-total
returns-clause-total c = value_order_total

pub returns-clause-exact : goal.returns-clause-exact
returns-clause-exact c = value_order-exact

pub returns-clause-by_kind : goal.returns-clause-by_kind
returns-clause-by_kind c = value_order-by_kind
