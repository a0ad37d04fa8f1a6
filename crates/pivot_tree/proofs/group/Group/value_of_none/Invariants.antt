use Rattle.std.proofs.Common.{◌≡◌, take, None}
use Rattle.pivot_tree.specs.Columns.{aggregate_in}
use Rattle.pivot_tree.specs.Groups.{names_of}
use Rattle.pivot_tree.proofs.group.Group.value_of_none.Given as goal

abbrev pub invariant-loop-held : goal.invariant-loop-held
invariant-loop-held l = aggregate_in (names_of (take l.held-index l.held-items)) l.column ≡ None
