use Rattle.std.proofs.Common.{◌≡◌, ◌+◌, List, take}
use Rattle.std.specs.List.Sorted.{IsStrictlySortedBy}
use Rattle.row_batch.specs.Batches.{pair_of}
use Rattle.row_batch.specs.declared.batch.Pair.{Pair}
use Rattle.plan_types.specs.declared.plan.Plan.{Plan}
use Rattle.view_spec.specs.Kept.{by_key}
use Rattle.view_spec.specs.Members.{group_of, split_of}
use Rattle.pivot_tree.specs.Groups.{CanPut, with_row}
use Rattle.pivot_tree.specs.Trees.{NodesOf}
use Rattle.pivot_tree.proofs.TreeSteps.{AreReached}
use Rattle.pivot_tree.proofs.level.add_below.Given as goal

abbrev pub invariant-loop-cell : goal.invariant-loop-cell
invariant-loop-cell g l = record {
  path : l.path ≡ take l.cell-index l.group;
  steps : l.steps ≡ l.initial.steps + l.cell-index;
  nodes : (plan : Plan) (rows : List Pair) → NodesOf plan l.used rows l.initial.nodes.entries → IsStrictlySortedBy by_key rows → CanPut l.used rows (pair_of l.key l.row)
      → l.group ≡ group_of plan (pair_of l.key l.row) → l.split ≡ split_of plan (pair_of l.key l.row)
      → AreReached plan l.used rows (with_row rows (pair_of l.key l.row)) l.cell-index l.nodes.entries;
}
