-- What a view shows of a table's rows.
use Rattle.std.specs.Prelude.{List, map, filter, false, if◌then◌else◌}
use Rattle.std.specs.declared.cmp.Ordering.{Ordering}
use Rattle.plain_data.specs.Sorting.{sorted_by}
use Rattle.cell_core.specs.declared.cell.Cell.{Cell}
use Rattle.cell_core.specs.declared.schema.Column.{Column}
use Rattle.row_batch.specs.declared.batch.Pair.{Pair}
use Rattle.plan_types.specs.declared.plan.Plan.{Plan}
use Rattle.view_types.specs.declared.key.ViewKey.TheVariants.{Row, Group}
use Rattle.view_types.specs.declared.shown.Shown.{Shown}
use Rattle.view_spec.specs.Cells.{cells_of_group, cells_of_row, header_of}
use Rattle.view_spec.specs.Columns.{is_flat}
use Rattle.view_spec.specs.Kept.{kept}
use Rattle.view_spec.specs.Members.{members, paths, splits}
use Rattle.view_spec.specs.Openings.{Opening, is_visible, mark_of}
use Rattle.place_order.specs.Places.{place_order}
use Rattle.view_spec.specs.declared.placed.PlacedRow.{PlacedRow}
use Rattle.view_spec.specs.Places.{place_of_group, place_of_row}

-- a schema's columns, a plan for them, an opening and rows
pub record Side : Type 0 where
  pub columns : List Column
  pub plan : Plan
  pub opening : Opening
  pub pairs : List Pair

abbrev pub placed_row : List Column → Plan → Pair → PlacedRow
placed_row columns plan p = record {
  place = place_of_row plan p;
  row = record { key = Row p.key; mark = false; cells = cells_of_row columns plan p };
}

abbrev pub placed_group : List Column → Plan → Opening → List Pair → List Cell → PlacedRow
placed_group columns plan opening rows path = record {
  place = place_of_group columns plan rows path;
  row = record {
    key = Group path;
    mark = mark_of plan opening path;
    cells = cells_of_group columns plan (splits plan rows) (members plan rows path);
  };
}

-- what is shown of kept rows, in any order
abbrev pub entries : List Column → Plan → Opening → List Pair → List PlacedRow
entries columns plan opening rows =
    if is_flat plan then map (placed_row columns plan) rows
    else map (placed_group columns plan opening rows) (filter (is_visible opening) (paths plan rows))

abbrev pub by_place : PlacedRow → PlacedRow → Ordering
by_place a b = place_order a.place b.place

-- the shown rows at their places, ascending
abbrev pub placed : Side → List PlacedRow
placed s = sorted_by by_place (entries s.columns s.plan s.opening (kept s.plan s.pairs))

abbrev pub view : Side → Shown
view s = record { header = header_of s.columns s.plan (splits s.plan (kept s.plan s.pairs)); rows = map (λ p. p.row) (placed s) }
