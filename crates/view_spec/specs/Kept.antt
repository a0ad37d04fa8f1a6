-- The rows that a plan keeps, with the cells of its expressions.
use Rattle.std.specs.Prelude.{List, ◌++◌, map, filter, Bool}
use Rattle.std.specs.declared.cmp.Ordering.{Ordering}
use Rattle.plain_data.specs.Sorting.{sorted_by}
use Rattle.cell_core.specs.Cells.{cell_order}
use Rattle.cell_core.specs.declared.cell.Cell.{Cell}
use Rattle.row_batch.specs.Batches.{pair_of}
use Rattle.row_batch.specs.declared.batch.Pair.{Pair}
use Rattle.expr_spec.specs.TreeViews.{tree_view}
use Rattle.expr_spec.specs.Values.{value_in}
use Rattle.plan_types.specs.declared.plan.Plan.{Plan}
use Rattle.view_spec.specs.Filters.{keeps}

-- a row's cells, and then those of the expressions
abbrev pub full_row : Plan → List Cell → List Cell
full_row plan row = row ++ map (λ e. value_in (tree_view e.tree) row) plan.expressions

abbrev pub full_pair : Plan → Pair → Pair
full_pair plan p = pair_of p.key (full_row plan p.row)

abbrev pub by_key : Pair → Pair → Ordering
by_key a b = cell_order a.key b.key

abbrev pub is_kept : Plan → Pair → Bool
is_kept plan p = keeps plan.filters p.row

-- ascending by key
abbrev pub kept : Plan → List Pair → List Pair
kept plan pairs = sorted_by by_key (filter (is_kept plan) (map (full_pair plan) pairs))
