use Rattle.std.proofs.Common.{◌∙◌}
use Rattle.std.proofs.lemmas.Result.{IfOk-weaker}
use Rattle.group_walk.specs.Walks.{place_in}
use Rattle.group_walk.proofs.LevelSteps.{looks_at-is, moved_is}
use Rattle.group_walk.proofs.level.next_values.Goals as goal

pub returns-then-has_moved-clause-each : goal.returns-then-has_moved-clause-each
returns-then-has_moved-clause-each g c columns rows shape is =
    let course = c.args.course.now in
    let plan = course.plan.now in
    let path = c.args.path.now in
    let moved = moved_is columns plan course.opening.now rows course.was.now path c.args.above.now c.has_moved.result is c.has_moved.ensures ∙ c.if-has_moved.true in
    IfOk-weaker c.children.result _ _
    (λ cells each k. each columns plan rows shape.tree_is k ∙ looks_at-is columns plan rows course.told.now (place_in course.was.now) path k _ moved)
    c.children.ensures.each

pub returns-else-has_moved-clause-each : goal.returns-else-has_moved-clause-each
returns-else-has_moved-clause-each g c columns rows shape is =
    let course = c.args.course.now in
    let plan = course.plan.now in
    let path = c.args.path.now in
    let moved = moved_is columns plan course.opening.now rows course.was.now path c.args.above.now c.has_moved.result is c.has_moved.ensures ∙ c.if-has_moved.false in
    IfOk-weaker c.next_values.result _ _
    (λ cells each k. each k ∙ looks_at-is columns plan rows course.told.now (place_in course.was.now) path k _ moved)
    c.next_values.ensures.each
