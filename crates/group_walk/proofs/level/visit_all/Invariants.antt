use Rattle.std.proofs.Common.{◌≡◌, ◌≤◌, ◌+◌, List, All, filter, map, take}
use Rattle.cell_core.specs.declared.schema.Column.{Column}
use Rattle.row_batch.specs.declared.batch.Pair.{Pair}
use Rattle.view_spec.specs.Entries.{is_there}
use Rattle.view_spec.specs.Views.{placed_group}
use Rattle.group_walk.specs.Levels.{IsBelowPlace, IsShape, path_ahead}
use Rattle.group_walk.proofs.level.visit_all.Given as goal

abbrev pub invariant-loop-one : goal.invariant-loop-one
invariant-loop-one g l = record {
  rows : (columns : List Column) (rows : List Pair) → IsShape columns l.course.plan.now l.course.split_columns.now l.course.tree.now rows → All (IsBelowPlace columns l.course.plan.now rows) l.ahead
      → l.met.items ≡ map (placed_group columns l.course.plan.now l.course.opening.now rows) (filter (is_there l.course.plan.now rows) (map path_ahead (take l.one-index l.ahead)));
  few : l.steps ≤ l.initial.steps + l.one-index;
}
