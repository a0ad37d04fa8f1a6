use Rattle.plan_json.proofs.Back.{plan-back}
use Rattle.plan_json.proofs.laws.plans_are_read_back.Goals as goal

pub returns : goal.returns
returns c = plan-back
