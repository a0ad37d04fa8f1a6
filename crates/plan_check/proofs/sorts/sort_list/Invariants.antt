use Rattle.std.proofs.Common.{◌≡◌, drop}
use Rattle.row_cells.specs.Rows.{read_each}
use Rattle.row_cells.proofs.Fronts.{with_front}
use Rattle.plan_check.specs.Sorts.{sort_at}
use Rattle.plan_check.proofs.sorts.sort_list.Given as goal

abbrev pub invariant-loop-i : goal.invariant-loop-i
invariant-loop-i l =
    with_front l.found (read_each (sort_at l.columns l.groups l.aggregates l.sorts) l.i (drop l.i l.sorts))
    ≡ read_each (sort_at l.columns l.groups l.aggregates l.sorts) 0 l.sorts
