use Rattle.plan_check.proofs.KindLemmas.{unit_few}
use Rattle.plan_check.proofs.typing.bucket_unit.Goals as goal

pub returns-in_default : goal.returns-in_default
returns-in_default c = unit_few c.args.arguments.now c.args.kind c.in_default.len_below
