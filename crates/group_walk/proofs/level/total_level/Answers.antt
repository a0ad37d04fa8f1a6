use Rattle.std.proofs.Common.{◌≡◌, false, sym, ap, ◌∙◌}
use Rattle.std.proofs.lemmas.Bool.{true≢false}
use Rattle.view_spec.specs.Entries.{is_there}
use Rattle.view_spec.specs.Places.{place_of_group}
use Rattle.group_walk.proofs.LevelSteps.{first_level}
use Rattle.group_walk.proofs.level.total_level.Goals as goal
use Rattle.group_walk.proofs.level.total_level.Goals.{in-Some+in_ok-group_row+in_ok-push, in_default}

pub returns-clause-rows : goal.returns-clause-rows
returns-clause-rows g c columns rows shape =
    let plan = c.args.course.now.plan.now in
    let opening = c.args.course.now.opening.now in
    let empty = c.new-path.ensures in
    elim c.match-node.branch [
      | in-Some+in_ok-group_row+in_ok-push w ↦
          let found = (w.in-Some.ensures.found columns plan rows shape.tree_is).1 in
          let shown = w.in_ok-group_row.ensures columns rows found shape.splits_are (w.new-place.ensures ∙ ap (place_of_group columns plan rows) (sym empty)) in
          rw w.level-is (first_level columns plan opening rows c.new-path.result w.in_ok-group_row.field-0 c.new-level.result.items w.push.new.self.items empty c.new-level.ensures.items shown w.in_ok-push.ensures.items)
      | in_default w ↦
          let none : is_there plan rows c.new-path.result ≡ false = w.in_default.ensures.found columns plan rows shape.tree_is in
          absurd (true≢false (ap (is_there plan rows) (sym empty) ∙ none))
    ]
