use Rattle.std.proofs.Common.{◌≡◌, false, sym, ap, ◌∙◌}
use Rattle.view_spec.specs.Openings.{mark_of}
use Rattle.view_spec.specs.declared.placed.PlacedRow.{PlacedRow}
use Rattle.group_walk.specs.Walks.{place_in}
use Rattle.group_walk.proofs.LevelSteps.{adds_none}
use Rattle.group_walk.proofs.level.add_below.Goals as goal

pub returns-in_default : goal.returns-in_default
returns-in_default g c columns rows path shape is =
    let course = c.args.course.now in
    let closed : mark_of course.plan.now course.opening.now path ≡ false = ap (λ (x : PlacedRow). x.row.mark) (sym is) ∙ c.if-above.false in
    adds_none columns course.plan.now course.opening.now rows course.told.now (place_in course.was.now) path c.args.ahead.now.items closed
