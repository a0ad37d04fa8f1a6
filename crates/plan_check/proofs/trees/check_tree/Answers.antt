use Rattle.std.proofs.Common.{sym}
use Rattle.expr_spec.specs.TreeViews.{tree_view}
use Rattle.expr_spec.proofs.NumberedLemmas.{checked}
use Rattle.plan_check.proofs.trees.check_tree.Goals as goal

pub returns-clause-checked : goal.returns-clause-checked
returns-clause-checked c =
    checked c.args.schema.now.columns (tree_view c.args.tree.now) (tree_view c.number.new.tree) c.in_ok-kind.kind (sym c.in_ok-kind.ensures) c.number.ensures.view
