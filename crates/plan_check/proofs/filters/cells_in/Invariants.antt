use Rattle.std.proofs.Common.{◌≡◌, drop, map}
use Rattle.cell_core.specs.RawViews.{raw_view, items_of}
use Rattle.plan_json.specs.Reading.{each}
use Rattle.plan_json.proofs.Fronts.{with_front}
use Rattle.plan_check.specs.Filters.{cell_in}
use Rattle.plan_check.proofs.filters.cells_in.Given as goal

abbrev pub invariant-loop-value : goal.invariant-loop-value
invariant-loop-value l =
    with_front l.found.items (each (cell_in l.kind) (items_of (map raw_view (drop l.value-index l.values))))
    ≡ each (cell_in l.kind) (items_of (map raw_view l.values))
