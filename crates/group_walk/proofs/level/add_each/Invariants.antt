use Rattle.std.proofs.Common.{◌≡◌, List, [], ◌∷◌, ◌++◌, All, length, map}
use Rattle.std.specs.Vec.Iter.{into_iter_items, into_iter_len}
use Rattle.cell_core.specs.declared.schema.Column.{Column}
use Rattle.row_batch.specs.declared.batch.Pair.{Pair}
use Rattle.plan_types.specs.declared.plan.Plan.{Plan}
use Rattle.view_spec.specs.Places.{place_of_group}
use Rattle.group_walk.specs.Levels.{IsBelowPlace, path_ahead}
use Rattle.group_walk.proofs.level.add_each.Given as goal

abbrev pub invariant-loop-value : goal.invariant-loop-value
invariant-loop-value l = record {
  counted : length (into_iter_items l.value-iterator) ≡ into_iter_len l.value-iterator;
  rest : map path_ahead l.ahead.items ++ map (λ c. l.above ++ c ∷ []) (into_iter_items l.value-iterator)
      ≡ map path_ahead l.initial.ahead.items ++ map (λ c. l.above ++ c ∷ []) (into_iter_items l.initial.value-iterator);
  placed : (columns : List Column) (plan : Plan) (rows : List Pair) → l.place ≡ place_of_group columns plan rows l.above
      → All (IsBelowPlace columns plan rows) l.initial.ahead.items → All (IsBelowPlace columns plan rows) l.ahead.items;
  can_next : (goal.iterator-loop-value).can_next l.value-iterator;
  is_finite : (goal.iterator-loop-value).is_finite l.value-iterator;
}
