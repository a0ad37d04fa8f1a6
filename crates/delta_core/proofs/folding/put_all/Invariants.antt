use Rattle.std.proofs.Common.{◌≡◌, ◌+◌, ◌≤◌, length, fold, None}
use Rattle.std.specs.Vec.Iter.{into_iter_items, into_iter_len}
use Rattle.delta_core.specs.Folding.{past_end, put_in}
use Rattle.delta_core.proofs.folding.put_all.Given as goal

abbrev pub invariant-loop-put : goal.invariant-loop-put
invariant-loop-put l = record {
  counted : length (into_iter_items l.put-iterator) ≡ into_iter_len l.put-iterator;
  room : length l.rows.rows + length (into_iter_items l.put-iterator) ≤ l.rows.capacity;
  within : past_end l.rows.rows (into_iter_items l.put-iterator) ≡ None;
  rest : fold put_in l.rows.rows (into_iter_items l.put-iterator) ≡ fold put_in l.initial.rows.rows (into_iter_items l.initial.put-iterator);
  can_next : (goal.iterator-loop-put).can_next l.put-iterator;
  is_finite : (goal.iterator-loop-put).is_finite l.put-iterator;
}
