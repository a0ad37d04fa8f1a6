use Rattle.std.proofs.Common.{◌≡◌, ◌+◌, ◌-◌, ◌≤◌, ◌++◌, reverse, vec_len}
use Rattle.std.specs.Vec.{vec_capacity}
use Rattle.delta_core.proofs.gap.shift.Given as goal

abbrev pub invariant-loop-from : goal.invariant-loop-from
invariant-loop-from l = record {
  rows : l.from.items ++ reverse l.to.items ≡ l.initial.from.items ++ reverse l.initial.to.items;
  back : l.to.items ++ reverse l.from.items ≡ l.initial.to.items ++ reverse l.initial.from.items;
  all : vec_len l.from + vec_len l.to ≡ vec_len l.initial.from + vec_len l.initial.to;
  most : vec_len l.initial.to ≤ l.size → vec_len l.to ≤ l.size;
  from_capacity : vec_capacity l.from ≡ vec_capacity l.initial.from;
  to_capacity : vec_capacity l.to ≡ vec_capacity l.initial.to;
}

abbrev pub decreases-loop-from : goal.decreases-loop-from
decreases-loop-from l = l.size - vec_len l.to
