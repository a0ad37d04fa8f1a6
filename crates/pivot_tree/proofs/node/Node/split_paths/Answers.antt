use Rattle.std.proofs.Common.{rules}
use Rattle.std.specs.Map.{keys_of}
use Rattle.pivot_tree.proofs.SplitPaths.{paths_ascend}
use Rattle.pivot_tree.proofs.node.Node.split_paths.Goals as goal

pub returns-in_err-copy-clause-ascend : goal.returns-in_err-copy-clause-ascend
returns-in_err-copy-clause-ascend c = paths_ascend (keys_of c.args.self.now.splits.entries) (search rules)

pub returns-in_err-push-clause-ascend : goal.returns-in_err-push-clause-ascend
returns-in_err-push-clause-ascend c = paths_ascend (keys_of c.args.self.now.splits.entries) (search rules)

pub returns-clause-ascend : goal.returns-clause-ascend
returns-clause-ascend c = paths_ascend (keys_of c.args.self.now.splits.entries) (search rules)
