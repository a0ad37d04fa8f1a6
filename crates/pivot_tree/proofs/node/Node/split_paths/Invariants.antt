use Rattle.std.proofs.Common.{◌≡◌, ◌++◌}
use Rattle.std.specs.Map.{keys_of}
use Rattle.pivot_tree.proofs.node.Node.split_paths.Given as goal

abbrev pub invariant-loop-path : goal.invariant-loop-path
invariant-loop-path l = keys_of l.self.splits.entries ≡ l.paths.items ++ keys_of l.path-iterator
