use Rattle.std.proofs.Common.{◌≡◌, drop}
use Rattle.pivot_tree.specs.Columns.{aggregate_in}
use Rattle.pivot_tree.proofs.used.named_aggregate.Given as goal

abbrev pub invariant-loop-one : goal.invariant-loop-one
invariant-loop-one l = aggregate_in l.named l.column ≡ aggregate_in (drop l.one-index l.named) l.column
