use Rattle.std.proofs.Common.{◌≡◌, rules, sym, subst}
use Rattle.std.specs.List.Sorted.{IsStrictlySortedBy}
use Rattle.std.specs.Map.{keys_of}
use Rattle.view_spec.specs.Paths.{path_order}
use Rattle.pivot_tree.proofs.SplitPaths.{paths_ascend}
use Rattle.group_walk.proofs.told.paths_of.Goals as goal

pub returns-clause-ascend : goal.returns-clause-ascend
returns-clause-ascend c =
    let keys = keys_of c.args.beginnings.now.entries in
    let all : c.loop-path.paths.items ≡ keys = search rules in
    subst (IsStrictlySortedBy path_order) (sym all) (paths_ascend keys (search rules))
