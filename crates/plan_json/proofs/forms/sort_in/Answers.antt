use Rattle.std.proofs.Common.{sym}
use Rattle.plan_json.proofs.Pairs.{sort_in-other}
use Rattle.plan_json.proofs.forms.sort_in.Goals as goal

pub returns-then-items-ne2 : goal.returns-then-items-ne2
returns-then-items-ne2 c = sym (sort_in-other c.args.items.now c.if-items-ne2.true)
