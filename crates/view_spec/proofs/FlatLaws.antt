-- A flat view without splits, of rows in any order.
use Rattle.std.proofs.Common.{◌≡◌, ◌≢◌, Bool, true, false, cond, List, [], ◌∷◌, map, filter, All, refl, sym, ◌∙◌, ap, subst}
use Rattle.std.specs.List.{IsDistinct}
use Rattle.std.specs.Ordering.{eq_by_cmp}
use Rattle.std.proofs.lemmas.List.{append-nil}
use Rattle.std.proofs.lemmas.List.Elements.{All-nil, All-cons, All-head, All-tail}
use Rattle.std.proofs.lemmas.List.Sorted.{IsPermutation-map}
use Rattle.plain_data.specs.Distinct.{AreDistinct}
use Rattle.plain_data.specs.Sorting.{sorted_by}
use Rattle.cell_core.specs.declared.schema.Column.{Column}
use Rattle.row_batch.specs.Tables.{keys_of_rows}
use Rattle.row_batch.specs.declared.batch.Pair.{Pair}
use Rattle.plan_types.specs.declared.plan.Plan.{Plan}
use Rattle.view_spec.specs.Cells.{head_at, header_of}
use Rattle.view_spec.specs.Columns.{is_flat}
use Rattle.view_spec.specs.Kept.{by_key, full_pair, is_kept, kept}
use Rattle.view_spec.specs.Members.{paths, split_of, splits, splits_by}
use Rattle.view_spec.specs.Openings.{is_visible}
use Rattle.view_spec.specs.Paths.{path_set}
use Rattle.view_spec.specs.Places.{place_of_row}
use Rattle.view_spec.specs.declared.placed.PlacedRow.{PlacedRow}
use Rattle.view_spec.specs.Views.{Side, by_place, placed, placed_group, placed_row}
use Rattle.view_spec.proofs.KeptLaws.{full_differ, keys_differ}
use Rattle.view_spec.proofs.PlaceLaws.{place_of_row-exact}
use Rattle.view_spec.proofs.Sorting.{IsDistinct-filter, IsPermutation-sorted_by, sorted_by-IsPermutation}
use Rattle.view_spec.proofs.ViewLaws.{IsDistinct-map, by_place-total, rows_differ}

-- the kept rows in the order of the table
abbrev pub kept_in_order : Plan → List Pair → List Pair
kept_in_order plan ps = filter (is_kept plan) (map (full_pair plan) ps)

kept_in_order-differ : (plan : Plan) (ps : List Pair) → AreDistinct (keys_of_rows ps) → IsDistinct (eq_by_cmp by_key) (kept_in_order plan ps)
kept_in_order-differ plan ps distinct = IsDistinct-filter (eq_by_cmp by_key) (is_kept plan) (map (full_pair plan) ps) (full_differ plan ps (keys_differ ps distinct))

-- sorting by key first makes no difference
pub placed-flat : (s : Side) → is_flat s.plan ≡ true → AreDistinct (keys_of_rows s.pairs)
    → placed s ≡ sorted_by by_place (map (placed_row s.columns s.plan) (kept_in_order s.plan s.pairs))
placed-flat s flat distinct =
    let rows = kept_in_order s.plan s.pairs in
    ap (λ b. sorted_by by_place (cond b (map (placed_row s.columns s.plan) (kept s.plan s.pairs)) (map (placed_group s.columns s.plan s.opening (kept s.plan s.pairs)) (filter (is_visible s.opening) (paths s.plan (kept s.plan s.pairs)))))) flat
    ∙ sym (sorted_by-IsPermutation by_place by_place-total (map (placed_row s.columns s.plan) rows) (map (placed_row s.columns s.plan) (kept s.plan s.pairs))
    (IsDistinct-map (eq_by_cmp by_key) (eq_by_cmp by_place) (placed_row s.columns s.plan) (rows_differ s.columns s.plan) rows (kept_in_order-differ s.plan s.pairs distinct))
    (IsPermutation-map (placed_row s.columns s.plan) rows (kept s.plan s.pairs) (IsPermutation-sorted_by by_key rows)))

-- without splits each shown column stands once
pub header-unsplit : (columns : List Column) (plan : Plan) (rows : List Pair) → plan.split_by ≡ [] → header_of columns plan (splits plan rows) ≡ map (head_at columns plan []) plan.columns
header-unsplit columns plan rows none =
    ap (λ by. header_of columns plan (splits_by by (path_set (map (split_of plan) rows)))) none ∙ append-nil (map (head_at columns plan []) plan.columns)

-- ---- keys and places

filter_apart : (p : Pair → Bool) (q : Pair) (ps : List Pair) → All (λ k. k ≢ q.key) (keys_of_rows ps) → All (λ k. k ≢ q.key) (keys_of_rows (filter p ps))
filter_apart p q [] h = h
filter_apart p q (x ∷ ps) h = by (p x) (filter_apart p q ps (All-tail (λ k. k ≢ q.key) x.key (keys_of_rows ps) h))
  where
    by : (b : Bool) → All (λ k. k ≢ q.key) (keys_of_rows (filter p ps)) → All (λ k. k ≢ q.key) (keys_of_rows (cond b (x ∷ filter p ps) (filter p ps)))
    by true later = All-cons (λ k. k ≢ q.key) x.key (keys_of_rows (filter p ps)) (All-head (λ k. k ≢ q.key) x.key (keys_of_rows ps) h) later
    by false later = later

filter_distinct : (p : Pair → Bool) (ps : List Pair) → AreDistinct (keys_of_rows ps) → AreDistinct (keys_of_rows (filter p ps))
filter_distinct p [] h = h
filter_distinct p (x ∷ ps) h = by (p x) (filter_distinct p ps h.1)
  where
    by : (b : Bool) → AreDistinct (keys_of_rows (filter p ps)) → AreDistinct (keys_of_rows (cond b (x ∷ filter p ps) (filter p ps)))
    by true later = (filter_apart p x ps h.0, later)
    by false later = later

full_keys : (plan : Plan) (ps : List Pair) → keys_of_rows (map (full_pair plan) ps) ≡ keys_of_rows ps
full_keys plan [] = refl
full_keys plan (p ∷ ps) = ap (λ ks. p.key ∷ ks) (full_keys plan ps)

pub kept_in_order-distinct : (plan : Plan) (ps : List Pair) → AreDistinct (keys_of_rows ps) → AreDistinct (keys_of_rows (kept_in_order plan ps))
kept_in_order-distinct plan ps h = filter_distinct (is_kept plan) (map (full_pair plan) ps) (subst AreDistinct (sym (full_keys plan ps)) h)

places_apart : (columns : List Column) (plan : Plan) (p : Pair) (ps : List Pair) → All (λ k. k ≢ p.key) (keys_of_rows ps)
    → All (λ q. q ≢ place_of_row plan p) (map (λ (x : PlacedRow). x.place) (map (placed_row columns plan) ps))
places_apart columns plan p [] h = All-nil (λ q. q ≢ place_of_row plan p)
places_apart columns plan p (q ∷ ps) h =
    All-cons (λ r. r ≢ place_of_row plan p) (place_of_row plan q) (map (λ (x : PlacedRow). x.place) (map (placed_row columns plan) ps))
    (λ same. All-head (λ k. k ≢ p.key) q.key (keys_of_rows ps) h (place_of_row-exact plan q p same))
    (places_apart columns plan p ps (All-tail (λ k. k ≢ p.key) q.key (keys_of_rows ps) h))

pub places_distinct : (columns : List Column) (plan : Plan) (ps : List Pair) → AreDistinct (keys_of_rows ps)
    → AreDistinct (map (λ (x : PlacedRow). x.place) (map (placed_row columns plan) ps))
places_distinct columns plan [] h = tt
places_distinct columns plan (p ∷ ps) h = (places_apart columns plan p ps h.0, places_distinct columns plan ps h.1)
