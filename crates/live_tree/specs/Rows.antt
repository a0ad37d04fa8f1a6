-- The kept rows of a view as changes are acted on, and the group cells of the rows that come and go.
use Rattle.std.specs.Prelude.{List, [], ◌∷◌, ◌++◌, fold, Option, Some, None, option_map, option_to_list}
use Rattle.cell_core.specs.Cells.{same_cell}
use Rattle.cell_core.specs.declared.cell.Cell.{Cell}
use Rattle.row_batch.specs.Batches.{pair_of, without}
use Rattle.row_batch.specs.Changes.{row_at}
use Rattle.row_batch.specs.declared.batch.Pair.{Pair}
use Rattle.row_batch.specs.declared.change.RowChange.{RowChange}
use Rattle.plan_types.specs.declared.plan.Plan.{Plan}
use Rattle.view_spec.specs.Entries.{where_it}
use Rattle.view_spec.specs.Filters.{keeps}
use Rattle.view_spec.specs.Kept.{full_row}
use Rattle.view_spec.specs.Members.{group_of}
use Rattle.pivot_tree.specs.Groups.{with_row}

-- a row of a table with the cells of the expressions, where the plan keeps it
abbrev pub kept_of : Plan → Option (List Cell) → Option (List Cell)
kept_of plan None = None
kept_of plan (Some row) = where_it (keeps plan.filters (full_row plan row)) (full_row plan row)

abbrev pub with_kept : List Pair → Cell → Option (List Cell) → List Pair
with_kept rows key None = rows
with_kept rows key (Some row) = with_row rows (pair_of key row)

-- the kept rows after a change: the row of its key goes, and its new row comes, where the plan keeps it
abbrev pub kept_change : Plan → List Pair → RowChange → List Pair
kept_change plan rows change = with_kept (without (same_cell change.key) rows) change.key (kept_of plan change.new)

abbrev pub kept_changes : Plan → List Pair → List RowChange → List Pair
kept_changes plan rows changes = fold (kept_change plan) rows changes

-- the group cells of a kept row, where there is one
abbrev pub path_of : Plan → Cell → Option (List Cell) → List (List Cell)
path_of plan key o = option_to_list (option_map (λ row. group_of plan (pair_of key row)) o)

-- those of the row that goes, and of the row that comes
abbrev pub change_paths : Plan → List Pair → RowChange → List (List Cell)
change_paths plan rows change = path_of plan change.key (row_at rows change.key) ++ path_of plan change.key (kept_of plan change.new)

abbrev pub paths_along : Plan → List Pair → List RowChange → List (List Cell)
paths_along plan rows [] = []
paths_along plan rows (change ∷ changes) = change_paths plan rows change ++ paths_along plan (kept_change plan rows change) changes
