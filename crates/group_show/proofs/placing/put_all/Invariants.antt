use Rattle.std.proofs.Common.{◌≡◌, fold, length}
use Rattle.std.specs.Vec.Iter.{into_iter_items, into_iter_len}
use Rattle.group_show.specs.Entries.{put_entry}
use Rattle.group_show.proofs.placing.put_all.Given as goal

abbrev pub invariant-loop-shown : goal.invariant-loop-shown
invariant-loop-shown l = record {
  counted : length (into_iter_items l.shown-iterator) ≡ into_iter_len l.shown-iterator;
  rest : fold put_entry l.by_place.entries (into_iter_items l.shown-iterator) ≡ fold put_entry l.initial.by_place.entries (into_iter_items l.initial.shown-iterator);
  can_next : (goal.iterator-loop-shown).can_next l.shown-iterator;
  is_finite : (goal.iterator-loop-shown).is_finite l.shown-iterator;
}
