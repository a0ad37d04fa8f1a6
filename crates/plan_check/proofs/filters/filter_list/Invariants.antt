use Rattle.std.proofs.Common.{◌≡◌, drop, map}
use Rattle.row_cells.specs.Rows.{read_each}
use Rattle.row_cells.proofs.Fronts.{with_front}
use Rattle.plan_json.specs.Plans.{filter_view}
use Rattle.plan_check.specs.Filters.{filter_at}
use Rattle.plan_check.proofs.filters.filter_list.Given as goal

abbrev pub invariant-loop-i : goal.invariant-loop-i
invariant-loop-i l =
    with_front l.found (read_each (filter_at l.columns) l.i (map filter_view (drop l.i l.filters)))
    ≡ read_each (filter_at l.columns) 0 (map filter_view l.filters)
