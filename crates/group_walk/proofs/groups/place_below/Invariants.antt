use Rattle.std.proofs.Common.{◌≡◌, ◌++◌, List, map, take}
use Rattle.cell_core.specs.declared.cell.Cell.{Cell}
use Rattle.cell_core.specs.declared.schema.Column.{Column}
use Rattle.place_order.specs.Places.{rank}
use Rattle.row_batch.specs.declared.batch.Pair.{Pair}
use Rattle.plan_types.specs.declared.plan.Sort.{Sort}
use Rattle.view_spec.specs.Members.{members}
use Rattle.view_spec.specs.Places.{rows_value}
use Rattle.pivot_tree.specs.Trees.{IsNode}
use Rattle.group_walk.proofs.groups.place_below.Given as goal

abbrev pub invariant-loop-sort : goal.invariant-loop-sort
invariant-loop-sort l =
    (columns : List Column) (path : List Cell) (rows : List Pair) → IsNode columns l.plan path l.node rows
    → l.place ≡ l.above ++ map (λ (s : Sort). rank s.direction (rows_value columns l.plan (members l.plan rows path) s.column)) (take l.sort-index l.sort-items)
