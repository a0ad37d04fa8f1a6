use Rattle.std.proofs.Common.{◌≡◌, drop}
use Rattle.agg_core.specs.Types.{aggregate_for}
use Rattle.agg_core.proofs.types.aggregate_for.Given as goal

abbrev pub invariant-loop-named : goal.invariant-loop-named
invariant-loop-named l = aggregate_for l.aggregates l.column l.kind ≡ aggregate_for (drop l.named-index l.aggregates) l.column l.kind
