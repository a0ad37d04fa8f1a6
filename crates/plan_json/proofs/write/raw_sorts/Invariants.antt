use Rattle.std.proofs.Common.{◌≡◌, take, map}
use Rattle.cell_core.specs.RawViews.{raw_view}
use Rattle.plan_json.specs.Writing.{raw_of_sort}
use Rattle.plan_json.proofs.write.raw_sorts.Given as goal

abbrev pub invariant-loop-sort : goal.invariant-loop-sort
invariant-loop-sort l = map raw_view l.items ≡ map raw_of_sort (take l.sort-index l.sorts)
