use Rattle.std.proofs.Common.{◌≡◌, take}
use Rattle.plan_types.proofs.tree.+tree_copy.Given as goal

abbrev pub invariant-copies_of-loop-tree : goal.invariant-copies_of-loop-tree
invariant-copies_of-loop-tree l = l.copies ≡ take l.tree-index l.tree-items
