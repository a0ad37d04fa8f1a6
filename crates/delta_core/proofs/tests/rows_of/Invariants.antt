use Rattle.view_types.specs.Rows.{AreShownRows}
use Rattle.delta_core.proofs.tests.rows_of.Given as goal

abbrev pub invariant-loop-key : goal.invariant-loop-key
invariant-loop-key l = AreShownRows l.rows.items
