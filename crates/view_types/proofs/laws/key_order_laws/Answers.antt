use Rattle.view_types.proofs.KeyOrder as order
use Rattle.view_types.proofs.laws.key_order_laws.Goals as goal

pub returns-clause-total : goal.returns-clause-total
returns-clause-total c = order.total

pub returns-clause-exact : goal.returns-clause-exact
returns-clause-exact c = order.exact
