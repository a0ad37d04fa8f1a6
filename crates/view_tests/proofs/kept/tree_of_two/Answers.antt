use Rattle.std.proofs.Common.{◌≡◌, false, All, ◌∙◌, sym, subst, rules}
use Rattle.std.specs.Ordering.{is_eq}
use Rattle.cell_core.specs.Cells.{cell_order}
use Rattle.pivot_tree.specs.Trees.{AreRows}
use Rattle.view_tests.specs.Rows.{IsNumber}
use Rattle.view_tests.proofs.MapRows.{two_rows}
use Rattle.view_tests.proofs.kept.tree_of_two.Goals as goal

pub tree_of-requires : goal.tree_of-requires
tree_of-requires g c =
    let first = c.args.first in
    let second = c.args.second in
    let apart : is_eq (cell_order first.key second.key) ≡ false = search rules in
    let numbers : All IsNumber first.row = search rules in
    let others : All IsNumber second.row = search rules in
    subst (λ ps. AreRows c.args.columns.now c.args.plan.now ps) (sym (c.deref.ensures.value ∙ c.in_ok-pairs.ensures.items))
    (two_rows c.args.columns.now c.args.plan.now first second apart numbers others)
