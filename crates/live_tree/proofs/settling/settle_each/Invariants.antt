use Rattle.std.proofs.Common.{◌≡◌, ◌+◌, ◌*◌, ◌≤◌, ◌++◌, drop, length}
use Rattle.table_core.specs.Lookups.{pairs_of}
use Rattle.pivot_tree.specs.Trees.{IsTreeOf}
use Rattle.live_tree.specs.Rows.{kept_changes, paths_along}
use Rattle.live_tree.proofs.settling.settle_each.Given as goal

abbrev pub invariant-loop-change : goal.invariant-loop-change
invariant-loop-change g l = record {
  tree : IsTreeOf l.columns l.plan l.tree (pairs_of l.rows.entries);
  rows : kept_changes l.plan (pairs_of l.rows.entries) (drop l.change-index l.changes) ≡ kept_changes l.plan (pairs_of l.initial.rows.entries) l.changes;
  paths : l.paths.items ++ paths_along l.plan (pairs_of l.rows.entries) (drop l.change-index l.changes) ≡ l.initial.paths.items ++ paths_along l.plan (pairs_of l.initial.rows.entries) l.changes;
  steps : l.steps ≤ l.initial.steps + l.change-index * (2 * (length l.plan.group_by + 1));
}
