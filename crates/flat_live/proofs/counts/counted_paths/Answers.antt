use Rattle.std.specs.Map.{keys_of}
use Rattle.flat_live.proofs.RowCounts.{paths_ascend}
use Rattle.flat_live.proofs.counts.counted_paths.Goals as goal

pub returns-in_err-paths-clause-ascend : goal.returns-in_err-paths-clause-ascend
returns-in_err-paths-clause-ascend c = paths_ascend (keys_of c.args.counts.now.entries) c.len.ensures.ordered

pub returns-in_err-copy-clause-ascend : goal.returns-in_err-copy-clause-ascend
returns-in_err-copy-clause-ascend c = paths_ascend (keys_of c.args.counts.now.entries) c.len.ensures.ordered

pub returns-in_err-push-clause-ascend : goal.returns-in_err-push-clause-ascend
returns-in_err-push-clause-ascend c = paths_ascend (keys_of c.args.counts.now.entries) c.len.ensures.ordered

pub returns-clause-ascend : goal.returns-clause-ascend
returns-clause-ascend c = paths_ascend (keys_of c.args.counts.now.entries) c.len.ensures.ordered
