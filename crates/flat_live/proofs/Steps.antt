-- A step of a live flat view: the rows that it leaves, and the keys that it touches.
use Rattle.std.proofs.Common.{◌≡◌, Bool, true, false, cond, List, [], ◌∷◌, map, Some, Less, refl, ◌∙◌, ap}
use Rattle.std.specs.List.{AllByRecursion, IsDistinct}
use Rattle.std.specs.List.Sorted.{IsStrictlySortedBy}
use Rattle.std.specs.Map.{keys_of, lookup}
use Rattle.std.specs.Option.{option_map}
use Rattle.plain_data.specs.Distinct.{AreDistinct}
use Rattle.row_batch.specs.Changes.{changed_all}
use Rattle.row_batch.specs.Tables.{keys_of_rows}
use Rattle.row_batch.specs.declared.change.RowChange.{RowChange}
use Rattle.row_batch.proofs.ChangeLists.{distinct_changed_all}
use Rattle.row_batch.proofs.Lookups.{same_from_permutation}
use Rattle.row_batch.proofs.Steps.{distinct_reordered}
use Rattle.place_order.specs.Places.{place_order}
use Rattle.table_core.specs.Tables.{TableData}
use Rattle.view_types.specs.Keys.{key_order, same_key}
use Rattle.view_types.specs.declared.key.ViewKey.{ViewKey}
use Rattle.delta_core.specs.Rows.{at_key}
use Rattle.delta_core.specs.declared.touched.Touch.{Touch}
use Rattle.view_columns.specs.Headers.{under}
use Rattle.view_spec.specs.Columns.{is_flat}
use Rattle.view_spec.specs.Laws.{HasKeys}
use Rattle.view_spec.specs.Touching.{key_of}
use Rattle.view_spec.specs.Views.{Side, by_place, placed}
use Rattle.view_spec.proofs.LiveLaws.{placed-unique}
use Rattle.view_spec.proofs.ViewLaws.{IsDistinct-map, same_keys}
use Rattle.view_kept.specs.Steps.{IsStep, touched_between}
use Rattle.live_list.specs.Live.{IsLive, live_key}
use Rattle.key_map.specs.Keyed.{same_by}
use Rattle.flat_live.specs.FlatRows.{FlatRow}
use Rattle.flat_live.specs.Rows.{Heads, IsKeptOf, as_placed, settled, told}
use Rattle.flat_live.proofs.Stands.{entry_kept, kept_reordered, kept_settled}
use Rattle.flat_live.proofs.Touches.{keys_told}

-- ---- kept rows and placed rows

at_key-map : (heads : Heads) (k : ViewKey) (xs : List FlatRow) → at_key key_of k (map (as_placed heads) xs) ≡ option_map (as_placed heads) (at_key live_key k xs)
at_key-map heads k [] = refl
at_key-map heads k (x ∷ xs) = by (same_key (live_key x) k) (at_key-map heads k xs)
  where
    by : (b : Bool) → at_key key_of k (map (as_placed heads) xs) ≡ option_map (as_placed heads) (at_key live_key k xs)
        → cond b (Some (as_placed heads x)) (at_key key_of k (map (as_placed heads) xs)) ≡ option_map (as_placed heads) (cond b (Some x) (at_key live_key k xs))
    by true later = refl
    by false later = later

all_placed : (heads : Heads) (x : FlatRow) (xs : List FlatRow) → AllByRecursion (λ p. place_order x.0 p ≡ Less) (keys_of xs) → AllByRecursion (λ y. by_place (as_placed heads x) y ≡ Less) (map (as_placed heads) xs)
all_placed heads x [] h = tt
all_placed heads x (y ∷ xs) h = (h.0, all_placed heads x xs h.1)

placed_ascend : (heads : Heads) (xs : List FlatRow) → IsStrictlySortedBy place_order (keys_of xs) → IsStrictlySortedBy by_place (map (as_placed heads) xs)
unfolding IsStrictlySortedBy
placed_ascend heads [] h = tt
placed_ascend heads (x ∷ xs) h = (all_placed heads x xs h.0, placed_ascend heads xs h.1)

placed_differ : (heads : Heads) (xs : List FlatRow) → IsDistinct (same_by live_key) xs → IsDistinct same_keys (map (as_placed heads) xs)
placed_differ heads xs h = IsDistinct-map (same_by live_key) same_keys (as_placed heads) (λ x y apart. apart) xs h

-- the rows that the plan keeps are shown as the view's list
pub placed_kept : (s : Side) (rows : List FlatRow) → is_flat s.plan ≡ true → HasKeys s → IsLive rows → IsKeptOf s.plan s.pairs rows → map (as_placed (under s.columns s.plan)) rows ≡ placed s
placed_kept s rows flat keys live kept =
    let heads : Heads = under s.columns s.plan in
    placed-unique s (map (as_placed heads) rows) keys (placed_ascend heads rows live.ascend) (placed_differ heads rows live.differ)
    (λ k. at_key-map heads k rows ∙ ap (option_map (as_placed heads)) (kept.rows k) ∙ entry_kept s k flat)

-- ---- the step

pub keys_at : (s : Side) (cs : List RowChange) (table : TableData) → IsStep s cs table → AreDistinct (keys_of_rows table.store.pairs)
keys_at s cs table step = distinct_reordered (changed_all s.pairs cs) table.store.pairs step.lead (distinct_changed_all s.pairs cs step.keys)

pub kept_at : (s : Side) (first now : List FlatRow) (cs : List RowChange) (table : TableData) → IsStep s cs table → IsKeptOf s.plan s.pairs first → ((k : ViewKey) → at_key live_key k now ≡ settled s.plan first cs k)
    → IsKeptOf s.plan table.store.pairs now
kept_at s first now cs table step kept each =
    kept_reordered s.plan (changed_all s.pairs cs) table.store.pairs now
    (same_from_permutation (changed_all s.pairs cs) table.store.pairs (distinct_changed_all s.pairs cs step.keys) (keys_at s cs table step) step.lead)
    (kept_settled s.plan s.pairs first now cs kept each)

-- ---- what was touched

pub keys_between : (a b : Side) (was now : List FlatRow) (noted : List (ViewKey × Touch)) → is_flat a.plan ≡ true → is_flat b.plan ≡ true → HasKeys a → HasKeys b
    → IsKeptOf a.plan a.pairs was → IsKeptOf b.plan b.pairs now → IsStrictlySortedBy key_order (keys_of noted)
    → ((q : ViewKey) → lookup (same_key q) noted ≡ told (under a.columns a.plan) (under b.columns b.plan) (at_key live_key q was) (at_key live_key q now))
    → noted ≡ touched_between a b
keys_between a b was now noted fa fb ka kb kept_a kept_b =
    keys_told a b (under a.columns a.plan) (under b.columns b.plan) (λ q. at_key live_key q was) (λ q. at_key live_key q now) noted ka kb
    (λ q. ap (option_map (as_placed (under a.columns a.plan))) (kept_a.rows q) ∙ entry_kept a q fa)
    (λ q. ap (option_map (as_placed (under b.columns b.plan))) (kept_b.rows q) ∙ entry_kept b q fb)
