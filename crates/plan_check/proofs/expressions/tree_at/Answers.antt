use Rattle.std.proofs.Common.{sym, ap}
use Rattle.plan_check.specs.Expressions.{parse_answer}
use Rattle.plan_check.proofs.Readings.{parsed-tree, parsed-fault}
use Rattle.plan_check.proofs.expressions.tree_at.Goals as goal

pub returns-in-Ok : goal.returns-in-Ok
returns-in-Ok c = sym (ap (parse_answer c.args.i) (parsed-tree c.args.text.now c.in-Ok.tree c.in-Ok.ensures.reads))

pub returns-in-Err-Bad : goal.returns-in-Err-Bad
returns-in-Err-Bad c =
    let first = rw c.in-Err-Bad.field-0-is at c.in-Err-Bad.ensures.refuses in
    let read = parsed-fault c.args.text.now c.in-Err-Bad.at c.in-Err-Bad.cause first in
    rw (c.placed.ensures, c.parse_cause.ensures) (sym (ap (parse_answer c.args.i) read))
