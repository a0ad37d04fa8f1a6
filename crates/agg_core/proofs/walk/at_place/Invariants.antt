use Rattle.std.proofs.Common.{◌≡◌, slice_get}
use Rattle.agg_core.specs.Bags.{repeated}
use Rattle.agg_core.proofs.walk.at_place.Given as goal

abbrev pub invariant-loop-cell : goal.invariant-loop-cell
invariant-loop-cell l =
    slice_get (repeated l.counts.entries) l.place ≡ slice_get (repeated l.cell-iterator) l.left
