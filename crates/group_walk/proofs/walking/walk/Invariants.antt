use Rattle.std.proofs.Common.{List}
use Rattle.cell_core.specs.declared.schema.Column.{Column}
use Rattle.row_batch.specs.declared.batch.Pair.{Pair}
use Rattle.group_walk.specs.Levels.{IsShape}
use Rattle.group_walk.specs.Walks.{place_in}
use Rattle.group_walk.proofs.WalkSteps.{IsWalked}
use Rattle.group_walk.proofs.walking.walk.Given as goal

abbrev pub invariant-loop-depth : goal.invariant-loop-depth
invariant-loop-depth g l =
    (columns : List Column) (rows : List Pair) → IsShape columns l.course.plan.now l.course.split_columns.now l.course.tree.now rows
    → IsWalked columns l.course.plan.now l.course.opening.now rows l.course.told.now (place_in l.course.was.now) l._depth l.met.items l.level.items l.fn.steps l.steps
