use Rattle.std.proofs.Common.{[], ◌∷◌, ◌++◌, sym, ap, ◌∙◌, subst}
use Rattle.std.specs.List.{list_any}
use Rattle.std.specs.List.Sorted.{IsStrictlySortedBy}
use Rattle.std.proofs.lemmas.Result.{IfOk-weaker}
use Rattle.cell_core.specs.Cells.{cell_order, same_cell}
use Rattle.pivot_tree.proofs.Families.{found_path}
use Rattle.pivot_tree.proofs.Found.{nil_ascends}
use Rattle.group_walk.specs.Told.{values_at}
use Rattle.group_walk.specs.Walks.{is_told}
use Rattle.group_walk.proofs.told.ToldPaths.next_values.Goals as goal

pub returns-in-Some-clause-each : goal.returns-in-Some-clause-each
returns-in-Some-clause-each c =
    let entries = c.self.inside.beginnings.entries in
    let path = c.args.path.now in
    IfOk-weaker c.cells_of.result _ _
    (λ cells is k.
    ap (list_any (same_cell k)) is ∙ ap (λ o. list_any (same_cell k) (values_at o)) (c.in-Some.ensures.value ∙ found_path path entries) ∙ c.self.invariant.next path k
    ∙ ap (λ told. is_told told (path ++ k ∷ [])) c.self.view_is)
    c.cells_of.ensures.values

pub returns-in-None-clause-ascend : goal.returns-in-None-clause-ascend
returns-in-None-clause-ascend c = subst (IsStrictlySortedBy cell_order) (sym c.new.ensures) nil_ascends

pub returns-in-None-clause-each : goal.returns-in-None-clause-each
returns-in-None-clause-each c k =
    let entries = c.self.inside.beginnings.entries in
    let path = c.args.path.now in
    ap (list_any (same_cell k)) c.new.ensures ∙ ap (λ o. list_any (same_cell k) (values_at o)) (c.in-None.ensures.value ∙ found_path path entries) ∙ c.self.invariant.next path k
    ∙ ap (λ told. is_told told (path ++ k ∷ [])) c.self.view_is
