use Rattle.std.proofs.Common.{◌≤◌, length, ◌∙◌, arith}
use Rattle.group_walk.specs.Walks.{place_in}
use Rattle.group_walk.proofs.WalkSteps.{total_visited, visits_more, visits_so_far, walked_end, walked_more, walked_start}
use Rattle.group_walk.proofs.walking.walk.Goals as goal

pub returns-in_err-level-clause-visits : goal.returns-in_err-level-clause-visits
returns-in_err-level-clause-visits g c columns rows shape =
    total_visited columns c.args.plan.now c.args.opening.now rows c.args.told.now (place_in c.args.was.now) c.args.steps.now c.total_level.new.steps c.total_level.ensures.steps

pub loop-depth-init : goal.loop-depth-init
loop-depth-init g c columns rows shape =
    walked_start columns c.args.plan.now c.args.opening.now rows c.args.told.now (place_in c.args.was.now) c.new-met.result.items c.in_ok-level.level.items c.args.steps.now c.total_level.new.steps
    c.new-met.ensures.items (c.in_ok-level.ensures.rows columns rows shape) c.in_ok-level.ensures.steps

pub returns-in_err-below-clause-visits : goal.returns-in_err-below-clause-visits
returns-in_err-below-clause-visits g c columns rows shape =
    let walked = c.loop-depth.invariant columns rows shape in
    visits_more columns c.args.plan.now c.args.opening.now rows c.args.told.now (place_in c.args.was.now) c.loop-depth._depth c.loop-depth.met.items c.loop-depth.level.items c.args.steps.now c.loop-depth.steps
    c.level_below.new.steps walked (c.level_below.ensures.visits columns rows walked.paths shape (c.deref.ensures.value ∙ walked.level_is) walked.distinct)

pub returns-in_err-append-clause-visits : goal.returns-in_err-append-clause-visits
returns-in_err-append-clause-visits g c columns rows shape =
    let walked = c.loop-depth.invariant columns rows shape in
    visits_more columns c.args.plan.now c.args.opening.now rows c.args.told.now (place_in c.args.was.now) c.loop-depth._depth c.loop-depth.met.items c.loop-depth.level.items c.args.steps.now c.loop-depth.steps
    c.level_below.new.steps walked (c.level_below.ensures.visits columns rows walked.paths shape (c.deref.ensures.value ∙ walked.level_is) walked.distinct)

pub loop-depth-preserved : goal.loop-depth-preserved
loop-depth-preserved g c columns rows shape =
    let walked = c.loop-depth.invariant columns rows shape in
    let level_is = c.deref.ensures.value ∙ walked.level_is in
    walked_more columns c.args.plan.now c.args.opening.now rows c.args.told.now (place_in c.args.was.now) c.loop-depth._depth c.loop-depth.met.items c.loop-depth.level.items c.append.new.self.items
    c.in_ok-below.below.items c.args.steps.now c.loop-depth.steps c.level_below.new.steps walked
    (c.level_below.ensures.visits columns rows walked.paths shape level_is walked.distinct) (c.in_ok-below.ensures.rows columns rows walked.paths shape level_is walked.distinct) c.in_ok-append.ensures.items

pub returns-in_err-append-2-clause-visits : goal.returns-in_err-append-2-clause-visits
returns-in_err-append-2-clause-visits g c columns rows shape =
    visits_so_far columns c.args.plan.now c.args.opening.now rows c.args.told.now (place_in c.args.was.now) c.loop-depth._depth c.loop-depth.met.items c.loop-depth.level.items c.args.steps.now c.loop-depth.steps
    (c.loop-depth.invariant columns rows shape)

pub returns-clause-met : goal.returns-clause-met
returns-clause-met g c columns rows shape =
    let plan = c.args.plan.now in
    let depth = c.loop-depth._depth in
    let deep : length plan.group_by ≤ depth = let past = c.loop-depth-test.false in let end = c.len-depth-end.ensures in omega arith in
    walked_end columns plan c.args.opening.now rows c.args.told.now (place_in c.args.was.now) depth c.loop-depth.met.items c.loop-depth.level.items c.append-2.new.self.items c.args.steps.now c.loop-depth.steps
    deep (c.loop-depth.invariant columns rows shape) c.in_ok-append-2.ensures.items

pub returns-clause-visits : goal.returns-clause-visits
returns-clause-visits g c columns rows shape =
    visits_so_far columns c.args.plan.now c.args.opening.now rows c.args.told.now (place_in c.args.was.now) c.loop-depth._depth c.loop-depth.met.items c.loop-depth.level.items c.args.steps.now c.loop-depth.steps
    (c.loop-depth.invariant columns rows shape)
