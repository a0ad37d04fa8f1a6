use Rattle.std.proofs.Common.{◌≡◌, ◌++◌}
use Rattle.group_walk.proofs.told.cells_of.Given as goal

abbrev pub invariant-loop-value : goal.invariant-loop-value
invariant-loop-value l = l.values.keys ≡ l.cells ++ l.value-iterator
