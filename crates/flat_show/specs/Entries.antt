-- Rows by their places, as a map's entries.
use Rattle.std.specs.Prelude.{List, map}
use Rattle.plain_data.specs.Sorting.{sorted_by}
use Rattle.cell_core.specs.declared.schema.Column.{Column}
use Rattle.place_order.specs.declared.rank.Rank.{Rank}
use Rattle.row_batch.specs.declared.batch.Pair.{Pair}
use Rattle.plan_types.specs.declared.plan.Plan.{Plan}
use Rattle.view_types.specs.declared.shown.ShownRow.{ShownRow}
use Rattle.view_spec.specs.declared.placed.PlacedRow.{PlacedRow}
use Rattle.view_spec.specs.Views.{by_place, placed_row}

abbrev pub entry_of : PlacedRow → List Rank × ShownRow
entry_of x = (x.place, x.row)

abbrev pub entries_by_place : List Column → Plan → List Pair → List (List Rank × ShownRow)
entries_by_place columns plan rows = map entry_of (sorted_by by_place (map (placed_row columns plan) rows))
