-- What is shown of the rows that were put at their places.
use Rattle.std.proofs.Common.{◌≡◌, true, List, [], ◌∷◌, map, refl, sym, ◌∙◌, ap}
use Rattle.plain_data.specs.Distinct.{AreDistinct}
use Rattle.plain_data.specs.Sorting.{sorted_by}
use Rattle.place_order.specs.declared.rank.Rank.{Rank}
use Rattle.cell_core.specs.declared.schema.Column.{Column}
use Rattle.row_batch.specs.Tables.{keys_of_rows}
use Rattle.row_batch.specs.declared.batch.Pair.{Pair}
use Rattle.view_types.specs.declared.shown.HeaderColumn.{HeaderColumn}
use Rattle.view_types.specs.declared.shown.ShownRow.{ShownRow}
use Rattle.view_spec.specs.Cells.{header_of}
use Rattle.view_spec.specs.Columns.{is_flat}
use Rattle.view_spec.specs.Members.{splits}
use Rattle.view_spec.specs.declared.placed.PlacedRow.{PlacedRow}
use Rattle.view_spec.specs.Views.{Side, by_place, placed, placed_row, view}
use Rattle.view_spec.proofs.FlatLaws.{kept_in_order, placed-flat}
use Rattle.flat_show.specs.Entries.{entries_by_place, entry_of}
use Rattle.flat_show.proofs.SplitLaws.{splits-in_order}

pub header_shown : (s : Side) (columns : List Column) (rows : List Pair) (head : List HeaderColumn) → columns ≡ s.columns → rows ≡ kept_in_order s.plan s.pairs
    → head ≡ header_of columns s.plan (splits s.plan rows) → head ≡ (view s).header
header_shown s columns rows head stand same made =
    made ∙ ap (λ cs. header_of cs s.plan (splits s.plan rows)) stand ∙ ap (λ rs. header_of s.columns s.plan (splits s.plan rs)) same
    ∙ ap (header_of s.columns s.plan) (splits-in_order s.plan s.pairs)

-- the placed rows of the entries are those of the view
placed_again : (xs : List PlacedRow) → map (λ (e : List Rank × ShownRow). let x : PlacedRow = record { place = e.0; row = e.1 } in x) (map entry_of xs) ≡ xs
placed_again [] = refl
placed_again (x ∷ xs) = ap (λ ys. x ∷ ys) (placed_again xs)

pub rows_placed : (s : Side) (rows : List Pair) (es : List (List Rank × ShownRow)) → is_flat s.plan ≡ true → AreDistinct (keys_of_rows s.pairs)
    → rows ≡ kept_in_order s.plan s.pairs → es ≡ entries_by_place s.columns s.plan rows → map (λ (e : List Rank × ShownRow). let x : PlacedRow = record { place = e.0; row = e.1 } in x) es ≡ placed s
rows_placed s rows es flat distinct same made =
    ap (map (λ (e : List Rank × ShownRow). let x : PlacedRow = record { place = e.0; row = e.1 } in x)) (made ∙ ap (entries_by_place s.columns s.plan) same)
    ∙ placed_again (sorted_by by_place (map (placed_row s.columns s.plan) (kept_in_order s.plan s.pairs)))
    ∙ sym (placed-flat s flat distinct)
