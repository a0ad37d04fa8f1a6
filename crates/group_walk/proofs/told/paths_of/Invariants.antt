use Rattle.std.proofs.Common.{◌≡◌, ◌++◌}
use Rattle.std.specs.Map.{keys_of}
use Rattle.group_walk.proofs.told.paths_of.Given as goal

abbrev pub invariant-loop-path : goal.invariant-loop-path
invariant-loop-path l = keys_of l.beginnings.entries ≡ l.paths.items ++ keys_of l.path-iterator
