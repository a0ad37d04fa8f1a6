-- The columns of a view, split path by split path.
use Rattle.std.specs.Prelude.{List, map}
use Rattle.cell_core.specs.declared.cell.Cell.{Cell}
use Rattle.cell_core.specs.declared.schema.Column.{Column}
use Rattle.plan_types.specs.declared.plan.Plan.{Plan}
use Rattle.view_types.specs.declared.shown.HeaderColumn.{HeaderColumn}
use Rattle.view_spec.specs.Cells.{head_at}
use Rattle.view_columns.specs.declared.headers.SplitColumns.{SplitColumns}

-- the shown columns under one split path
abbrev pub under : List Column → Plan → List Cell → List HeaderColumn
under columns plan split = map (head_at columns plan split) plan.columns

-- the shown columns under each of some split paths
abbrev pub each_under : List Column → Plan → List (List Cell) → List SplitColumns
each_under columns plan splits = map (λ s. record { split = s; columns = under columns plan s }) splits
