use Rattle.std.proofs.Common.{◌≡◌, ◌++◌}
use Rattle.delta_core.specs.Deltas.{removed_keys}
use Rattle.delta_core.proofs.making.gone.Given as goal

abbrev pub invariant-loop-key : goal.invariant-loop-key
invariant-loop-key g l =
    l.removed.items ++ removed_keys l.key-iterator (g.V.ShownNow.shown l.view).rows ≡ removed_keys l.initial.key-iterator (g.V.ShownNow.shown l.view).rows
