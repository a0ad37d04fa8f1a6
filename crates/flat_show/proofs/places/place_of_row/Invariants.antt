use Rattle.std.proofs.Common.{◌≡◌, map, take}
use Rattle.cell_core.specs.Cells.{value_of}
use Rattle.place_order.specs.Places.{rank}
use Rattle.plan_types.specs.declared.plan.Sort.{Sort}
use Rattle.view_spec.specs.Filters.{cell_in}
use Rattle.flat_show.proofs.places.place_of_row.Given as goal

abbrev pub invariant-loop-sort : goal.invariant-loop-sort
invariant-loop-sort l =
    l.ranks.items ≡ map (λ (s : Sort). rank s.direction (value_of (cell_in l.row s.column))) (take l.sort-index l.sorts)
