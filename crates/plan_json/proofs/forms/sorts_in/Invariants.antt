use Rattle.std.proofs.Common.{◌≡◌, drop, map}
use Rattle.cell_core.specs.RawViews.{raw_view, items_of}
use Rattle.plan_json.specs.Reading.{each, sort_of}
use Rattle.plan_json.proofs.Fronts.{with_front}
use Rattle.plan_json.proofs.forms.sorts_in.Given as goal

abbrev pub invariant-loop-value : goal.invariant-loop-value
invariant-loop-value l =
    with_front l.found.items (each sort_of (items_of (map raw_view (drop l.value-index l.values)))) ≡ each sort_of (items_of (map raw_view l.values))
