use Rattle.std.proofs.Common.{◌≡◌, ◌++◌, map, take}
use Rattle.plan_types.specs.Columns.{expression_column}
use Rattle.plan_check.proofs.columns.push_made.Given as goal

abbrev pub invariant-loop-expression : goal.invariant-loop-expression
invariant-loop-expression l = l.columns.items ≡ l.initial.columns.items ++ map expression_column (take l.expression-index l.made)
