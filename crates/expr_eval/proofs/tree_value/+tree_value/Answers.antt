use Rattle.expr_eval.proofs.ArgumentLemmas.{values_push}
use Rattle.expr_eval.proofs.tree_value.+tree_value.Goals as goal

pub values-loop-argument-preserved : goal.values-loop-argument-preserved
values-loop-argument-preserved t c =
    values_push _ _ _ c.args.arguments.now c.loop-argument.argument-index c.argument-item.result c.args.row.now _
    c.loop-argument-test.true c.argument-item.is c.in_ok-eval.ensures c.in_ok-push.ensures.items c.loop-argument.invariant
