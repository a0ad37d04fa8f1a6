use Rattle.std.proofs.Common.{◌≡◌, ◌++◌}
use Rattle.std.specs.Map.{keys_of}
use Rattle.flat_live.proofs.counts.counted_paths.Given as goal

-- the paths so far, with those that are left, are all paths
abbrev pub invariant-loop-path : goal.invariant-loop-path
invariant-loop-path l = keys_of l.counts.entries ≡ l.paths.items ++ keys_of l.path-iterator
