use Rattle.std.proofs.Common.{◌≡◌, List, drop}
use Rattle.cell_core.specs.declared.cell.Cell.{Cell}
use Rattle.cell_core.specs.declared.schema.Column.{Column}
use Rattle.row_batch.specs.declared.batch.Pair.{Pair}
use Rattle.view_spec.specs.Cells.{with_columns}
use Rattle.view_spec.specs.Members.{members, within}
use Rattle.view_spec.specs.Places.{rows_value}
use Rattle.view_columns.specs.Headers.{under}
use Rattle.pivot_tree.specs.Trees.{IsNode}
use Rattle.group_walk.proofs.groups.put_split.Given as goal

-- the values so far, and those of the columns that are left, are all values
abbrev pub invariant-loop-i : goal.invariant-loop-i
invariant-loop-i l =
    (columns : List Column) (path : List Cell) (rows : List Pair) → IsNode columns l.plan path l.node rows → l.one.columns ≡ under columns l.plan l.one.split
    → with_columns columns l.plan l.one.split (rows_value columns l.plan (within l.plan l.one.split (members l.plan rows path))) (drop l.i l.column-items) l.cells
    ≡ with_columns columns l.plan l.one.split (rows_value columns l.plan (within l.plan l.one.split (members l.plan rows path))) l.column-items l.initial.cells
