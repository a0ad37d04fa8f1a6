use Rattle.std.proofs.Common.{sym, subst}
use Rattle.std.proofs.lemmas.Result.{IfOk-weaker}
use Rattle.group_walk.specs.Levels.{AreAhead, looks_on}
use Rattle.group_walk.specs.Walks.{place_in}
use Rattle.group_walk.proofs.LevelSteps.{rows_below, visits_none}
use Rattle.group_walk.proofs.level.level_below.Goals as goal

pub returns-in_err-ahead-clause-visits : goal.returns-in_err-ahead-clause-visits
returns-in_err-ahead-clause-visits g c columns rows paths shape level distinct =
    let course = c.args.course.now in
    visits_none (looks_on columns course.plan.now course.opening.now rows course.told.now (place_in course.was.now)) paths c.args.steps.now

pub returns-clause-rows : goal.returns-clause-rows
returns-clause-rows g c columns rows paths shape level distinct =
    let course = c.args.course.now in
    let plan = course.plan.now in
    let opening = course.opening.now in
    let told = course.told.now in
    let before = place_in course.was.now in
    let ahead = subst (AreAhead columns plan opening rows told before paths) (sym c.deref.ensures.value) (c.in_ok-ahead.ensures columns rows paths shape level distinct) in
    IfOk-weaker c.visit_all.result _ _ (λ below is. rows_below columns plan opening rows told before paths c.deref.result.now below.items ahead is) (c.visit_all.ensures.rows columns rows shape ahead.placed)
