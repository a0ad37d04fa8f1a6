use Rattle.std.proofs.Common.{sym}
use Rattle.frame_json.proofs.Pairs.{pair_part-other}
use Rattle.frame_json.proofs.part.pair_part.Goals as goal

pub returns-then-pair-ne2 : goal.returns-then-pair-ne2
returns-then-pair-ne2 c = sym (pair_part-other c.args.pair.now c.if-pair-ne2.true)
