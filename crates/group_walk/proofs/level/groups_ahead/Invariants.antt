use Rattle.std.proofs.Common.{◌≡◌, List, map, take}
use Rattle.std.specs.List.{IsDistinct}
use Rattle.cell_core.specs.declared.cell.Cell.{Cell}
use Rattle.cell_core.specs.declared.schema.Column.{Column}
use Rattle.row_batch.specs.declared.batch.Pair.{Pair}
use Rattle.view_spec.specs.Paths.{same_path}
use Rattle.view_spec.specs.Views.{placed_group}
use Rattle.group_walk.specs.Levels.{AreAhead, IsShape}
use Rattle.group_walk.specs.Walks.{place_in}
use Rattle.group_walk.proofs.level.groups_ahead.Given as goal

abbrev pub invariant-loop-above : goal.invariant-loop-above
invariant-loop-above g l =
    (columns : List Column) (rows : List Pair) (paths : List (List Cell)) → IsShape columns l.course.plan.now l.course.split_columns.now l.course.tree.now rows
    → l.level ≡ map (placed_group columns l.course.plan.now l.course.opening.now rows) paths → IsDistinct same_path paths
    → AreAhead columns l.course.plan.now l.course.opening.now rows l.course.told.now (place_in l.course.was.now) (take l.above-index paths) l.ahead.items
