use Rattle.std.proofs.Common.{◌∙◌, sym, ap, refl, arith}
use Rattle.plan_types.specs.declared.tree.TreeNode.TheVariants as node
use Rattle.expr_parse.specs.Grammar.{tree}
use Rattle.expr_spec.specs.TreeData.{column}
use Rattle.expr_spec.specs.Typing.{numbered}
use Rattle.plan_check.specs.Trees.{tree_of}
use Rattle.plan_check.proofs.NumberLemmas.{view_column, numbered_each, trees_each}
use Rattle.plan_check.proofs.number.+numbering.Goals as goal

pub number-returns-in-Column-clause-view : goal.number-returns-in-Column-clause-view
number-returns-in-Column-clause-view t c =
    let found = rw c.in-Column.name-is at c.find.ensures in
    let before = view_column c.args.tree.now c.in-Column.name c.in-Column.place c.in-Column.is in
    rw c.in-Column.name-is (view_column _ c.in-Column.name c.find.result refl ∙ ap (λ place. column c.args.tree.now.at c.in-Column.name place) found ∙ sym (ap (numbered c.args.schema.now.columns) before))

pub number-returns-in-Column-clause-tree : goal.number-returns-in-Column-clause-tree
number-returns-in-Column-clause-tree t c =
    let found = rw c.in-Column.name-is at c.find.ensures in
    let before = view_column c.args.tree.now c.in-Column.name c.in-Column.place c.in-Column.is in
    rw c.in-Column.name-is (ap (λ place. tree c.args.tree.now.at (node.Column c.in-Column.name place)) found ∙ sym (ap (λ d. tree_of (numbered c.args.schema.now.columns d)) before))

pub number_each-returns-clause-view : goal.number_each-returns-clause-view
number_each-returns-clause-view t c =
    numbered_each c.args.schema.now.columns c.loop-i.trees c.args.trees.now c.loop-i.invariant.0.0
    (λ k d lt. c.loop-i.invariant.1 k d (omega arith) lt)

pub number_each-returns-clause-trees : goal.number_each-returns-clause-trees
number_each-returns-clause-trees t c =
    trees_each c.args.schema.now.columns c.loop-i.trees c.args.trees.now c.loop-i.invariant.0.0
    (λ k d lt. c.loop-i.invariant.2 k d (omega arith) lt)
