use Rattle.std.proofs.Common.{arith}
use Rattle.rank_list.proofs.Heights.{balanced_joined}
use Rattle.rank_list.proofs.tree.join.Goals as goal

pub invariant_of-result : goal.invariant_of-result
invariant_of-result g c =
    balanced_joined _ c.height.ensures.suits c.height-2.ensures.suits c.requires.level (cc) (omega arith) (cc)
