use Rattle.std.proofs.Common.{◌<◌, [], length, get_or, arith}
use Rattle.group_walk.specs.Walks.{place_in}
use Rattle.group_walk.proofs.LevelSteps.{ahead_more, ahead_none, level_length, row_at}
use Rattle.group_walk.proofs.level.groups_ahead.Goals as goal

pub loop-above-init : goal.loop-above-init
loop-above-init g c columns rows paths shape level distinct =
    let course = c.args.course.now in
    ahead_none columns course.plan.now course.opening.now rows course.told.now (place_in course.was.now) c.new-ahead.result.items c.new-ahead.ensures.items

pub loop-above-preserved : goal.loop-above-preserved
loop-above-preserved g c columns rows paths shape level distinct =
    let course = c.args.course.now in
    let plan = course.plan.now in
    let opening = course.opening.now in
    let i = c.loop-above.above-index in
    let within : i < length paths = let inside = c.loop-above-test.true in let long = level_length columns plan opening rows paths c.args.level.now level in omega arith in
    let at = row_at columns plan opening rows paths c.args.level.now i c.above-item.result level within c.above-item.is in
    ahead_more columns plan opening rows course.told.now (place_in course.was.now) paths i c.loop-above.ahead.items c.add_below.new.ahead.items within distinct (c.loop-above.invariant columns rows paths shape level distinct)
    (c.in_ok-add_below.ensures columns rows (get_or paths i []) shape at)
