use Rattle.std.specs.Cmp.Lexicographic.{slice_cmp}
use Rattle.std.specs.Ordering.{nat_cmp}
use Rattle.view_types.proofs.PutCells.{none_ascend}
use Rattle.view_types.proofs.shown.ShownCells.with_capacity.Goals as goal

pub invariant_of-result : goal.invariant_of-result
invariant_of-result c = none_ascend (slice_cmp nat_cmp) c.in_ok-with_capacity.field-0.items c.in_ok-with_capacity.ensures.items
