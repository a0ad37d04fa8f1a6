use Rattle.std.proofs.Common.{◌≡◌, List, [], drop}
use Rattle.cell_core.specs.declared.cell.Cell.{Cell}
use Rattle.cell_core.specs.declared.schema.Column.{Column}
use Rattle.row_batch.specs.declared.batch.Pair.{Pair}
use Rattle.view_spec.specs.Cells.{with_splits}
use Rattle.view_spec.specs.Members.{members}
use Rattle.view_columns.specs.Headers.{each_under}
use Rattle.pivot_tree.specs.Trees.{IsNode}
use Rattle.group_walk.proofs.groups.group_cells.Given as goal

-- the values so far, and those of the split paths that are left, are all values
abbrev pub invariant-loop-one : goal.invariant-loop-one
invariant-loop-one l =
    (columns : List Column) (path : List Cell) (rows : List Pair) (paths : List (List Cell)) → IsNode columns l.plan path l.node rows → l.split_columns ≡ each_under columns l.plan paths
    → with_splits columns l.plan (members l.plan rows path) (drop l.one-index paths) l.cells ≡ with_splits columns l.plan (members l.plan rows path) paths []
