use Rattle.std.proofs.Common.{◌≡◌, take, map}
use Rattle.cell_core.specs.RawViews.{raw_view}
use Rattle.plan_json.specs.Plans.{filter_view}
use Rattle.plan_json.specs.Writing.{raw_of_filter}
use Rattle.plan_json.proofs.write.raw_filters.Given as goal

abbrev pub invariant-loop-filter : goal.invariant-loop-filter
invariant-loop-filter l = map raw_view l.items ≡ map raw_of_filter (map filter_view (take l.filter-index l.filters))
