-- Keys that were noted by what two sides have under each: these are the touched keys.
use Rattle.std.proofs.Common.{◌≡◌, Bool, true, false, cond, ◌||◌, List, [], ◌∷◌, ◌++◌, map, Option, Some, None, is_some, refl, sym, ◌∙◌, ap, subst}
use Rattle.std.specs.Prelude.{not}
use Rattle.std.specs.List.Sorted.{IsStrictlySortedBy}
use Rattle.std.specs.Map.{keys_of, lookup}
use Rattle.std.specs.Option.{option_map}
use Rattle.std.proofs.lemmas.List.Kept.{IsStrictlySortedBy-filter}
use Rattle.view_types.specs.Keys.{key_order, same_key}
use Rattle.view_types.specs.declared.key.ViewKey.{ViewKey}
use Rattle.view_types.proofs.KeyOrder as keys
use Rattle.delta_core.specs.Deltas.{marked}
use Rattle.delta_core.specs.KeySets.{is_among, with_keys}
use Rattle.delta_core.specs.Rows.{at_key, has_row}
use Rattle.delta_core.specs.declared.touched.Touch.{Touch}
use Rattle.delta_core.proofs.KeySetLemmas.{beside, keys_of-beside, unions_ascend}
use Rattle.view_spec.specs.Entries.{entry}
use Rattle.view_spec.specs.Laws.{HasKeys}
use Rattle.view_spec.specs.Touching.{is_touched, key_of, same_found, touched}
use Rattle.view_spec.specs.Views.{Side, placed, view}
use Rattle.view_spec.specs.declared.placed.PlacedRow.{PlacedRow}
use Rattle.view_spec.proofs.LocalLaws.{touched-by_entry}
use Rattle.view_spec.proofs.StepLaws.{among_touched_keys}
use Rattle.view_spec.proofs.ViewLaws.{found}
use Rattle.view_kept.specs.Steps.{touched_between}
use Rattle.key_map.proofs.Keyed.{row_at-shown}
use Rattle.key_map.proofs.LookUps.{by_lookups}
use Rattle.pivot_live.specs.Affected.{told_of}

some_mapped : {X Y : Type 0} (f : X → Y) (o : Option X) → is_some (option_map f o) ≡ is_some o
some_mapped f None = refl
some_mapped f (Some x) = refl

lookup-beside : (f : ViewKey → Bool) (ks : List ViewKey) (q : ViewKey) → lookup (same_key q) (beside f ks) ≡ cond (is_among ks q) (Some (record { was_shown = f q })) None
lookup-beside f [] q = refl
lookup-beside f (k ∷ ks) q = by (same_key q k) refl (lookup-beside f ks q)
  where
    by : (b : Bool) → same_key q k ≡ b → lookup (same_key q) (beside f ks) ≡ cond (is_among ks q) (Some (record { was_shown = f q })) None
        → cond b (Some (record { was_shown = f k })) (lookup (same_key q) (beside f ks)) ≡ cond (b || is_among ks q) (Some (record { was_shown = f q })) None
    by true is later = ap (λ z. Some (record { was_shown = f z })) (sym (keys.same_key_is_equal q k is))
    by false is later = later

cond_not : (b : Bool) (o : Option Touch) → cond b None o ≡ cond (not b) o None
cond_not true o = refl
cond_not false o = refl

shown_before : (s : Side) (q : ViewKey) → HasKeys s → is_some (entry s q) ≡ has_row q (view s).rows
shown_before s q keys =
    ap is_some (sym (found s q keys)) ∙ sym (some_mapped (λ (x : PlacedRow). x.row) (at_key key_of q (placed s))) ∙ ap is_some (row_at-shown (λ (x : PlacedRow). x.row) q (placed s))

-- whether a key is touched is told from what the sides have under it
pub touched_at : (a b : Side) (q : ViewKey) → HasKeys a → HasKeys b → is_among (touched a b) q ≡ not (same_found (entry a q) (entry b q))
touched_at a b q ka kb = among_touched_keys (placed a) (placed b) q ∙ touched-by_entry a b q ka kb

told_entries : (a b : Side) (q : ViewKey) → HasKeys a → HasKeys b → told_of (entry a q) (entry b q) ≡ lookup (same_key q) (marked (view a).rows (touched a b))
told_entries a b q ka kb =
    ap (λ c. cond (same_found (entry a q) (entry b q)) None (Some (record { was_shown = c }))) (shown_before a q ka)
    ∙ cond_not (same_found (entry a q) (entry b q)) (Some (record { was_shown = has_row q (view a).rows }))
    ∙ ap (λ c. cond c (Some (record { was_shown = has_row q (view a).rows })) None) (sym (touched_at a b q ka kb))
    ∙ sym (lookup-beside (λ k. has_row k (view a).rows) (touched a b) q)

-- THE NOTED KEYS, each beside what is told of it, are those that differ between the sides
pub keys_told : (a b : Side) (noted : List (ViewKey × Touch)) → HasKeys a → HasKeys b → IsStrictlySortedBy key_order (keys_of noted)
    → ((q : ViewKey) → lookup (same_key q) noted ≡ told_of (entry a q) (entry b q)) → noted ≡ touched_between a b
keys_told a b noted ka kb up each =
    by_lookups noted (marked (view a).rows (touched a b)) up
    (subst (IsStrictlySortedBy key_order) (sym (keys_of-beside (λ k. has_row k (view a).rows) (touched a b)))
    (IsStrictlySortedBy-filter key_order (is_touched (placed a) (placed b)) (with_keys [] (map key_of (placed a) ++ map key_of (placed b))) (unions_ascend (map key_of (placed a) ++ map key_of (placed b)))))
    (λ q. each q ∙ told_entries a b q ka kb)
