use Rattle.std.proofs.Common.{◌≡◌, drop, fold, map}
use Rattle.std.specs.BTreeSet.{insert_key}
use Rattle.view_spec.specs.Members.{split_of}
use Rattle.view_spec.specs.Paths.{path_order, path_set}
use Rattle.flat_show.proofs.splits.paths_of.Given as goal

-- the paths so far, with those of the rows that are left, are all paths
abbrev pub invariant-loop-pair : goal.invariant-loop-pair
invariant-loop-pair l = fold (insert_key path_order) l.paths.keys (map (split_of l.plan) (drop l.pair-index l.rows)) ≡ path_set (map (split_of l.plan) l.rows)
