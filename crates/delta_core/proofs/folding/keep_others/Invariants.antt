use Rattle.std.proofs.Common.{◌≡◌, ◌+◌, ◌≤◌, ◌++◌, length}
use Rattle.std.specs.Vec.Iter.{into_iter_items, into_iter_len}
use Rattle.delta_core.specs.Preparing.{others}
use Rattle.delta_core.proofs.folding.keep_others.Given as goal

abbrev pub invariant-loop-row : goal.invariant-loop-row
invariant-loop-row l = record {
  counted : length (into_iter_items l.row-iterator) ≡ into_iter_len l.row-iterator;
  room : length l.rows.rows + length (others l.dropped.keys (into_iter_items l.row-iterator)) ≤ l.rows.capacity;
  rest : l.rows.rows ++ others l.dropped.keys (into_iter_items l.row-iterator) ≡ l.initial.rows.rows ++ others l.dropped.keys (into_iter_items l.initial.row-iterator);
  capacity : l.rows.capacity ≡ l.initial.rows.capacity;
  can_next : (goal.iterator-loop-row).can_next l.row-iterator;
  is_finite : (goal.iterator-loop-row).is_finite l.row-iterator;
}
