use Rattle.std.proofs.Common.{sym}
use Rattle.frame_json.proofs.Pairs.{pair_of-other}
use Rattle.frame_json.proofs.member.column_pair.Goals as goal

pub returns-then-items-ne2 : goal.returns-then-items-ne2
returns-then-items-ne2 c = sym (pair_of-other c.args.items.now c.if-items-ne2.true)
