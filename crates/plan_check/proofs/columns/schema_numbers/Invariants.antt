use Rattle.std.proofs.Common.{◌≡◌, ◌++◌, drop}
use Rattle.plan_check.specs.Columns.{numbers_from}
use Rattle.plan_check.proofs.columns.schema_numbers.Given as goal

abbrev pub invariant-loop-i : goal.invariant-loop-i
invariant-loop-i l = l.found ++ numbers_from l.i (drop l.i l.columns) ≡ numbers_from 0 l.columns
