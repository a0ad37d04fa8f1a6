use Rattle.std.proofs.Common.{sym, ◌∙◌}
use Rattle.std.proofs.lemmas.Result.{IfOk-weaker}
use Rattle.pivot_tree.proofs.ColumnSteps.{cell_past, cell_there}
use Rattle.pivot_tree.proofs.path.cell_of.Goals as goal

pub returns-in-Some : goal.returns-in-Some
returns-in-Some c =
    let is = cell_there c.args.row.now c.args.column c.in-Some.cell.now c.in-Some.ensures.value in
    IfOk-weaker c.copy.result _ _ (λ cell same. same ∙ sym is) c.copy.ensures

pub returns-in-None : goal.returns-in-None
returns-in-None c = sym (cell_past c.args.row.now c.args.column c.in-None.ensures.value)
