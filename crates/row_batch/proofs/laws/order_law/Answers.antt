use Rattle.row_batch.proofs.Steps.{order_does_not_matter}
use Rattle.row_batch.proofs.laws.order_law.Goals as goal

pub returns : goal.returns
returns c = order_does_not_matter
