-- What is told of each key is what a step touches.
use Rattle.std.proofs.Common.{◌≡◌, Bool, true, false, cond, List, [], ◌∷◌, ◌++◌, map, Option, Some, None, is_some, refl, sym, ◌∙◌, ap, subst}
use Rattle.std.specs.Prelude.{not, ◌||◌}
use Rattle.std.specs.List.Sorted.{IsStrictlySortedBy}
use Rattle.std.specs.Map.{keys_of, lookup}
use Rattle.std.specs.Option.{option_map}
use Rattle.view_types.specs.Keys.{key_order, same_key}
use Rattle.view_types.specs.declared.key.ViewKey.{ViewKey}
use Rattle.view_types.proofs.KeyOrder as keys
use Rattle.delta_core.specs.Deltas.{marked}
use Rattle.delta_core.specs.KeySets.{is_among, with_keys}
use Rattle.delta_core.specs.Rows.{at_key, has_row}
use Rattle.delta_core.specs.declared.touched.Touch.{Touch}
use Rattle.delta_core.proofs.KeySetLemmas.{beside, keys_of-beside, unions_ascend}
use Rattle.view_spec.specs.Entries.{entry}
use Rattle.view_spec.specs.Laws.{HasKeys}
use Rattle.view_spec.specs.Touching.{is_touched, key_of, same_found, touched}
use Rattle.view_spec.specs.Views.{Side, placed, view}
use Rattle.view_spec.specs.declared.placed.PlacedRow.{PlacedRow}
use Rattle.view_spec.proofs.LocalLaws.{touched-by_entry}
use Rattle.view_spec.proofs.StepLaws.{among_touched_keys}
use Rattle.view_spec.proofs.ViewLaws.{found}
use Rattle.key_map.proofs.Keyed.{row_at-shown}
use Rattle.flat_live.specs.FlatRows.{FlatRow}
use Rattle.flat_live.specs.Rows.{Heads, as_placed, told}
use Rattle.std.proofs.lemmas.List.Kept.{IsStrictlySortedBy-filter}
use Rattle.key_map.proofs.LookUps.{by_lookups}

some_mapped : {X Y : Type 0} (f : X → Y) (o : Option X) → is_some (option_map f o) ≡ is_some o
some_mapped f None = refl
some_mapped f (Some x) = refl

lookup-beside : (f : ViewKey → Bool) (ks : List ViewKey) (q : ViewKey) → lookup (same_key q) (beside f ks) ≡ cond (is_among ks q) (Some (record { was_shown = f q })) None
lookup-beside f [] q = refl
lookup-beside f (k ∷ ks) q = by (same_key q k) refl (lookup-beside f ks q)
  where
    by : (b : Bool) → same_key q k ≡ b → lookup (same_key q) (beside f ks) ≡ cond (is_among ks q) (Some (record { was_shown = f q })) None
        → cond b (Some (record { was_shown = f k })) (lookup (same_key q) (beside f ks)) ≡ cond (b || is_among ks q) (Some (record { was_shown = f q })) None
    by true is later = ap (λ z. Some (record { was_shown = f z })) (sym (keys.same_key_is_equal q k is))
    by false is later = later

cond_not : (b : Bool) (o : Option Touch) → cond b None o ≡ cond (not b) o None
cond_not true o = refl
cond_not false o = refl

shown_before : (s : Side) (q : ViewKey) → HasKeys s → is_some (entry s q) ≡ has_row q (view s).rows
shown_before s q keys =
    ap is_some (sym (found s q keys)) ∙ sym (some_mapped (λ (x : PlacedRow). x.row) (at_key key_of q (placed s))) ∙ ap is_some (row_at-shown (λ (x : PlacedRow). x.row) q (placed s))

told_entries : (a b : Side) (ha hb : Heads) (was now : Option FlatRow) (q : ViewKey) → HasKeys a → HasKeys b
    → option_map (as_placed ha) was ≡ entry a q → option_map (as_placed hb) now ≡ entry b q → told ha hb was now ≡ lookup (same_key q) (marked (view a).rows (touched a b))
told_entries a b ha hb was now q ka kb before after =
    ap (λ e. cond (same_found e (option_map (as_placed hb) now)) None (Some (record { was_shown = is_some was }))) before
    ∙ ap (λ e. cond (same_found (entry a q) e) None (Some (record { was_shown = is_some was }))) after
    ∙ ap (λ c. cond (same_found (entry a q) (entry b q)) None (Some (record { was_shown = c }))) (sym (some_mapped (as_placed ha) was) ∙ ap is_some before ∙ shown_before a q ka)
    ∙ cond_not (same_found (entry a q) (entry b q)) (Some (record { was_shown = has_row q (view a).rows }))
    ∙ ap (λ c. cond c (Some (record { was_shown = has_row q (view a).rows })) None) (sym (among_touched_keys (placed a) (placed b) q ∙ touched-by_entry a b q ka kb))
    ∙ sym (lookup-beside (λ k. has_row k (view a).rows) (touched a b) q)

-- the keys that were noted with what is told of each are those that the step touches
pub keys_told : (a b : Side) (ha hb : Heads) (was now : ViewKey → Option FlatRow) (noted : List (ViewKey × Touch)) → HasKeys a → HasKeys b
    → ((q : ViewKey) → option_map (as_placed ha) (was q) ≡ entry a q) → ((q : ViewKey) → option_map (as_placed hb) (now q) ≡ entry b q)
    → IsStrictlySortedBy key_order (keys_of noted) → ((q : ViewKey) → lookup (same_key q) noted ≡ told ha hb (was q) (now q))
    → noted ≡ marked (view a).rows (touched a b)
keys_told a b ha hb was now noted ka kb before after up each =
    by_lookups noted (marked (view a).rows (touched a b)) up
    (subst (IsStrictlySortedBy key_order) (sym (keys_of-beside (λ k. has_row k (view a).rows) (touched a b)))
    (IsStrictlySortedBy-filter key_order (is_touched (placed a) (placed b)) (with_keys [] (map key_of (placed a) ++ map key_of (placed b))) (unions_ascend (map key_of (placed a) ++ map key_of (placed b)))))
    (λ q. each q ∙ told_entries a b ha hb (was q) (now q) q ka kb (before q) (after q))
