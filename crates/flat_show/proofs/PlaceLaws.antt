-- The loop that puts rows at their places.
use Rattle.std.proofs.Common.{◌≡◌, ℕ, ◌+◌, ◌<◌, List, map, length, get_or, take, refl, sym, ◌∙◌, ap}
use Rattle.std.specs.BTreeMap.{insert_entry}
use Rattle.std.proofs.lemmas.List.{get_or-map, length-map, take-map}
use Rattle.plain_data.specs.Distinct.{AreDistinct}
use Rattle.plain_data.specs.Sorting.{sorted_by}
use Rattle.cell_core.specs.declared.schema.Column.{Column}
use Rattle.place_order.specs.PlaceLaws.{place_order-exact}
use Rattle.place_order.specs.Places.{place_order}
use Rattle.place_order.specs.declared.rank.Rank.{Rank}
use Rattle.row_batch.specs.Tables.{keys_of_rows}
use Rattle.row_batch.specs.declared.batch.Pair.{Pair}
use Rattle.plan_types.specs.declared.plan.Plan.{Plan}
use Rattle.view_types.specs.declared.shown.ShownRow.{ShownRow}
use Rattle.view_spec.specs.declared.placed.PlacedRow.{PlacedRow}
use Rattle.view_spec.specs.Views.{by_place, placed_row}
use Rattle.flat_show.specs.Entries.{entries_by_place, entry_of}
use Rattle.view_spec.proofs.EntryLaws.{entries_more}
use Rattle.view_spec.proofs.FlatLaws.{places_distinct}

pub placed_more : (columns : List Column) (plan : Plan) (rows : List Pair) (i : ℕ) (p : Pair) (old new : List (List Rank × ShownRow)) → AreDistinct (keys_of_rows rows) → i < length rows
    → p ≡ get_or rows i p → old ≡ entries_by_place columns plan (take i rows)
    → new ≡ insert_entry place_order old (placed_row columns plan p).place (placed_row columns plan p).row
    → new ≡ entries_by_place columns plan (take (i + 1) rows)
placed_more columns plan rows i p old new distinct within at so_far put =
    let xs : List PlacedRow = map (placed_row columns plan) rows in
    let x : PlacedRow = placed_row columns plan p in
    let l : i < length xs = rw length-map within in
    let same : x ≡ get_or xs i x = ap (placed_row columns plan) at ∙ sym (get_or-map (placed_row columns plan) rows i p x within) in
    entries_more (λ (y : PlacedRow). y.place) (λ (y : PlacedRow). y.row) place_order by_place (λ a b. refl) (λ a b tie. place_order-exact a.place b.place tie) xs i x old new
    (places_distinct columns plan rows distinct) l same (so_far ∙ ap (λ ys. map entry_of (sorted_by by_place ys)) (sym (take-map (placed_row columns plan) i rows))) put
    ∙ ap (λ ys. map entry_of (sorted_by by_place ys)) (take-map (placed_row columns plan) (i + 1) rows)
