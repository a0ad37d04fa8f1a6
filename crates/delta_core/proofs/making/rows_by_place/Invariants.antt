use Rattle.std.proofs.Common.{◌≡◌, List, ◌++◌, map}
use Rattle.std.specs.Map.{values_of}
use Rattle.view_types.specs.Rows.{AreShownRows}
use Rattle.view_types.specs.declared.key.ViewKey.{ViewKey}
use Rattle.delta_core.specs.Deltas.{puts_from}
use Rattle.delta_core.proofs.making.rows_by_place.Given as goal

abbrev pub invariant-loop-key : goal.invariant-loop-key
invariant-loop-key g l =
    ((done : List ViewKey) × (done ++ l.key-iterator ≡ l.initial.key-iterator) × (l.by_place.entries ≡ map (λ p. (p.position, p.row)) (puts_from done 0 (g.V.ShownNow.shown l.view).rows)))
    × AreShownRows (values_of l.by_place.entries)
