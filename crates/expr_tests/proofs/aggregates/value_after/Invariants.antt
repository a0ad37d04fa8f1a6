use Rattle.std.proofs.Common.{◌≡◌}
use Rattle.expr_tests.proofs.aggregates.value_after.Given as goal

abbrev pub invariant-loop-step : goal.invariant-loop-step
invariant-loop-step g l = record {
  stands : g.A.Aggregate.stands_for l.aggregate l.rows.entries;
  named : l.name ≡ g.A.Aggregate.name l.aggregate;
}
