use Rattle.std.proofs.Common.{◌≡◌, [], ◌∷◌, ◌++◌, sym, ap, ◌∙◌, subst}
use Rattle.pivot_tree.specs.Trees.{IsNode}
use Rattle.view_spec.specs.Entries.{is_there}
use Rattle.view_spec.specs.Places.{place_of_group}
use Rattle.view_spec.specs.Views.{placed_group}
use Rattle.group_walk.proofs.LevelSteps.{row_gone, row_there}
use Rattle.group_walk.proofs.ShownGroups.{place_next}
use Rattle.group_walk.proofs.level.visit.Goals as goal

pub returns-in_ok-push-2-clause-row : goal.returns-in_ok-push-2-clause-row
returns-in_ok-push-2-clause-row g c columns rows shape place =
    let plan = c.args.course.now.plan.now in
    let opening = c.args.course.now.opening.now in
    let path = c.args.one.now.above.now in
    let value = c.args.one.now.value in
    let node = c.in-Some.node.now in
    let next : c.push.new.self ≡ path ++ value ∷ [] = c.in_ok-push.ensures.ok ∙ (λ k. c.in_ok-path.ensures k ++ c.in_ok-copy.ensures k ∷ []) in
    let found = c.in-Some.ensures.found columns plan rows shape.tree_is in
    let at = place_next columns plan rows path value c.args.one.now.place.now c.in_ok-place.place place (c.in_ok-place.ensures columns (path ++ value ∷ []) rows (subst (λ q. IsNode columns plan q node rows) next found.1)) in
    let shown = c.in_ok-group_row.ensures columns rows found.1 shape.splits_are (at ∙ ap (place_of_group columns plan rows) (sym next)) in
    row_there columns plan opening rows (path ++ value ∷ []) c.in_ok-group_row.field-0 c.args.met.now.items c.push-in-Some.new.self.items
    (ap (is_there plan rows) (sym next) ∙ found.0) (shown ∙ ap (placed_group columns plan opening rows) next) c.in_ok-push-2.ensures.items

pub returns-in_default-clause-row : goal.returns-in_default-clause-row
returns-in_default-clause-row g c columns rows shape place =
    let plan = c.args.course.now.plan.now in
    let path = c.args.one.now.above.now in
    let value = c.args.one.now.value in
    let next : c.push.new.self ≡ path ++ value ∷ [] = c.in_ok-push.ensures.ok ∙ (λ k. c.in_ok-path.ensures k ++ c.in_ok-copy.ensures k ∷ []) in
    row_gone columns plan c.args.course.now.opening.now rows (path ++ value ∷ []) c.args.met.now.items
    (ap (is_there plan rows) (sym next) ∙ c.in_default.ensures.found columns plan rows shape.tree_is)
