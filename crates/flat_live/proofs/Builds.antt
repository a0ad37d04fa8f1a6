-- The rows of a table that a plan keeps.
use Rattle.std.proofs.Common.{◌≡◌, ℕ, zero, suc, Bool, true, false, cond, List, [], ◌∷◌, map, drop, Some, None, refl, sym, ◌∙◌, ap}
use Rattle.std.specs.Prelude.{OnOk, Result, Ok, Err}
use Rattle.std.specs.List.{IsDistinct}
use Rattle.std.specs.List.Sorted.{IsPermutation}
use Rattle.std.specs.Option.{option_map}
use Rattle.std.specs.Ordering.{eq_by_cmp}
use Rattle.plain_data.specs.Distinct.{AreDistinct}
use Rattle.cell_core.specs.Cells.{cell_order, same_cell}
use Rattle.cell_core.proofs.CellOrder.{exact}
use Rattle.row_batch.specs.Batches.{pair_of}
use Rattle.row_batch.specs.Changes.{row_at}
use Rattle.row_batch.specs.Tables.{keys_of_rows}
use Rattle.row_batch.specs.declared.batch.Pair.{Pair}
use Rattle.row_batch.proofs.Lookups.{absent_at}
use Rattle.place_order.specs.PlaceLaws.{is_equal}
use Rattle.plan_types.specs.declared.plan.Plan.{Plan}
use Rattle.view_types.proofs.KeyOrder.{same_key-symm}
use Rattle.view_types.specs.Keys.{same_key}
use Rattle.view_types.specs.declared.key.ViewKey.{ViewKey}
use Rattle.view_types.specs.declared.key.ViewKey.TheVariants.{Row, Group}
use Rattle.delta_core.specs.Rows.{at_key}
use Rattle.view_spec.specs.Entries.{where_it}
use Rattle.view_spec.specs.Kept.{by_key, full_pair, is_kept}
use Rattle.view_spec.proofs.FlatLaws.{kept_in_order, kept_in_order-distinct}
use Rattle.view_spec.proofs.KeptLaws.{keys_differ}
use Rattle.view_spec.proofs.ViewLaws.{IsDistinct-map}
use Rattle.key_map.specs.Keyed.{same_by}
use Rattle.live_list.specs.Live.{live_key}
use Rattle.flat_live.specs.FlatRows.{FlatRow}
use Rattle.flat_live.specs.Rows.{IsKeptOf, live_at, live_row, live_under}
use Rattle.flat_live.proofs.ByKey.{permuted}
use Rattle.flat_live.proofs.Options.{none_there}

kept_none : (plan : Plan) → IsKeptOf plan [] []
kept_none plan = record { rows = none }
  where
    none : (k : ViewKey) → None ≡ live_under plan [] k
    none (Row key) = refl
    none (Group path) = refl

pub kept_at_end : (plan : Plan) (pairs : List Pair) (rows : List FlatRow) → pairs ≡ [] → rows ≡ [] → IsKeptOf plan pairs rows
kept_at_end plan pairs rows p r = rw (p, r) (kept_none plan)

pub distinct_from : (ps : List Pair) (at : ℕ) → AreDistinct (keys_of_rows ps) → AreDistinct (keys_of_rows (drop at ps))
distinct_from ps zero h = h
distinct_from [] (suc at) h = h
distinct_from (p ∷ ps) (suc at) h = distinct_from ps at h.1

-- a key has no row behind its own
pub absent_later : (plan : Plan) (p : Pair) (ps : List Pair) → AreDistinct (keys_of_rows (p ∷ ps)) → live_under plan ps (Row p.key) ≡ None
absent_later plan p ps h = ap (λ o. live_at plan (option_map (pair_of p.key) o)) (absent_at ps p.key h.0)

more : (plan : Plan) (p : Pair) (ps : List Pair) (k : ViewKey) → cond (same_key (Row p.key) k) (live_at plan (Some p)) (live_under plan ps k) ≡ live_under plan (p ∷ ps) k
more plan p ps (Group path) = refl
more plan p ps (Row q) = by (same_key (Row p.key) (Row q)) refl
  where
    by : (b : Bool) → same_key (Row p.key) (Row q) ≡ b → cond b (live_at plan (Some p)) (live_under plan ps (Row q)) ≡ live_at plan (option_map (pair_of q) (cond (same_cell q p.key) (Some p.row) (row_at ps q)))
    by true is =
        let one : q ≡ p.key = exact q p.key (is_equal (cell_order q p.key) (same_key-symm (Row q) (Row p.key) ∙ is)) in
        ap (λ z. live_at plan (Some (pair_of z p.row))) (sym one)
        ∙ ap (λ b. live_at plan (option_map (pair_of q) (cond b (Some p.row) (row_at ps q)))) (sym (same_key-symm (Row q) (Row p.key) ∙ is))
    by false is = ap (λ b. live_at plan (option_map (pair_of q) (cond b (Some p.row) (row_at ps q)))) (sym (same_key-symm (Row q) (Row p.key) ∙ is))

pub kept_more : (plan : Plan) (p : Pair) (ps : List Pair) (rows now : List FlatRow) → IsKeptOf plan ps rows
    → ((k : ViewKey) → at_key live_key k now ≡ cond (same_key (Row p.key) k) (live_at plan (Some p)) (at_key live_key k rows)) → IsKeptOf plan (p ∷ ps) now
kept_more plan p ps rows now h each = record {
  rows = λ k. each k ∙ ap (cond (same_key (Row p.key) k) (live_at plan (Some p))) (h.rows k) ∙ more plan p ps k;
}

pub kept_more_ok : {A E : Type 0} (r : Result A E) (plan : Plan) (p : Pair) (ps : List Pair) (rows now : List FlatRow) → IsKeptOf plan ps rows
    → ((k : ViewKey) → OnOk r (at_key live_key k now ≡ cond (same_key (Row p.key) k) (live_at plan (Some p)) (at_key live_key k rows))) → OnOk r (IsKeptOf plan (p ∷ ps) now)
kept_more_ok (Ok x) plan p ps rows now h each = kept_more plan p ps rows now h each
kept_more_ok (Err e) plan p ps rows now h each = tt

-- ---- the kept rows as a list

abbrev pub live_rows : Plan → List Pair → List FlatRow
live_rows plan pairs = map (live_row plan) (kept_in_order plan pairs)

at_key-live_rows : (plan : Plan) (pairs : List Pair) → AreDistinct (keys_of_rows pairs) → (k : ViewKey) → at_key live_key k (live_rows plan pairs) ≡ live_under plan pairs k
at_key-live_rows plan [] distinct (Row key) = refl
at_key-live_rows plan [] distinct (Group path) = refl
at_key-live_rows plan (p ∷ ps) distinct k = by (is_kept plan (full_pair plan p)) refl (at_key-live_rows plan ps distinct.1 k) ∙ more plan p ps k
  where
    by : (b : Bool) → is_kept plan (full_pair plan p) ≡ b → at_key live_key k (live_rows plan ps) ≡ live_under plan ps k
        → at_key live_key k (map (live_row plan) (cond b (full_pair plan p ∷ kept_in_order plan ps) (kept_in_order plan ps))) ≡ cond (same_key (Row p.key) k) (live_at plan (Some p)) (live_under plan ps k)
    by true is later =
        ap (cond (same_key (Row p.key) k) (Some (live_row plan (full_pair plan p)))) later
        ∙ ap (λ b. cond (same_key (Row p.key) k) (option_map (live_row plan) (where_it b (full_pair plan p))) (live_under plan ps k)) (sym is)
    by false is later =
        later ∙ none_there (live_under plan ps) (Row p.key) k (absent_later plan p ps distinct)
        ∙ ap (λ b. cond (same_key (Row p.key) k) (option_map (live_row plan) (where_it b (full_pair plan p))) (live_under plan ps k)) (sym is)

live_rows-differ : (plan : Plan) (pairs : List Pair) → AreDistinct (keys_of_rows pairs) → IsDistinct (same_by live_key) (live_rows plan pairs)
live_rows-differ plan pairs distinct =
    IsDistinct-map (eq_by_cmp by_key) (same_by live_key) (live_row plan) (λ x y apart. apart) (kept_in_order plan pairs)
    (keys_differ (kept_in_order plan pairs) (kept_in_order-distinct plan pairs distinct))

pub kept_permuted : (plan : Plan) (pairs : List Pair) (rows : List FlatRow) → AreDistinct (keys_of_rows pairs) → IsDistinct (same_by live_key) rows → IsKeptOf plan pairs rows → IsPermutation rows (live_rows plan pairs)
kept_permuted plan pairs rows distinct differ kept =
    permuted live_key rows (live_rows plan pairs) differ (live_rows-differ plan pairs distinct) (λ k. kept.rows k ∙ sym (at_key-live_rows plan pairs distinct k))
