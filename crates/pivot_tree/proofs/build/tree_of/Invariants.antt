use Rattle.std.proofs.Common.{◌≡◌, ◌+◌, ◌*◌, take, length}
use Rattle.plain_data.specs.Sorting.{sorted_by}
use Rattle.view_spec.specs.Kept.{by_key}
use Rattle.pivot_tree.specs.Trees.{IsTreeOf}
use Rattle.pivot_tree.proofs.build.tree_of.Given as goal

abbrev pub invariant-loop-pair : goal.invariant-loop-pair
invariant-loop-pair g l = record {
  steps : l.steps ≡ l.initial.steps + l.pair-index * (length l.plan.group_by + 1);
  tree : IsTreeOf l.columns l.plan l.tree (sorted_by by_key (take l.pair-index l.pairs));
}
