use Rattle.std.proofs.Common.{◌≡◌, ◌+◌, ◌*◌, length}
use Rattle.pivot_tree.specs.Trees.{IsTreeOf}
use Rattle.view_tests.specs.Rows.{rows_of}
use Rattle.view_tests.proofs.trees.tree_after.Given as goal

abbrev pub invariant-loop-one : goal.invariant-loop-one
invariant-loop-one g l = record {
  stands : IsTreeOf l.columns l.plan l.tree (rows_of l.rows.entries);
  steps : l.steps ≡ l.initial.steps + l.one-index * (length l.plan.group_by + 1);
}
