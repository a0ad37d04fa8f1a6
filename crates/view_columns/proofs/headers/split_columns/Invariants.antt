use Rattle.std.proofs.Common.{◌≡◌, ◌++◌, length}
use Rattle.std.specs.Vec.Iter.{into_iter_items, into_iter_len}
use Rattle.view_columns.specs.Headers.{each_under}
use Rattle.view_columns.proofs.headers.split_columns.Given as goal

abbrev pub invariant-loop-split : goal.invariant-loop-split
invariant-loop-split l = record {
  counted : length (into_iter_items l.split-iterator) ≡ into_iter_len l.split-iterator;
  rest : l.made.items ++ each_under l.columns l.plan (into_iter_items l.split-iterator) ≡ each_under l.columns l.plan (into_iter_items l.initial.split-iterator);
  can_next : (goal.iterator-loop-split).can_next l.split-iterator;
  is_finite : (goal.iterator-loop-split).is_finite l.split-iterator;
}
