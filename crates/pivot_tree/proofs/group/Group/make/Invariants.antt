use Rattle.std.proofs.Common.{◌≡◌, [], All, take}
use Rattle.pivot_tree.specs.Groups.{Holds, names_of}
use Rattle.pivot_tree.proofs.group.Group.make.Given as goal

abbrev pub invariant-loop-named : goal.invariant-loop-named
invariant-loop-named l = record { names : names_of l.aggregates.items ≡ take l.named-index l.used; each : All (Holds []) l.aggregates.items }
