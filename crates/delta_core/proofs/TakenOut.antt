-- Keys that were added one by one and are taken out again, the last first.
use Rattle.std.proofs.Common.{◌≡◌, Bool, true, false, List, [], ◌∷◌, ◌++◌, Some, None, is_some, Ordering, Less, Equal, Greater, refl, sym, ap, ◌∙◌}
use Rattle.std.specs.BTreeMap.{is_at}
use Rattle.std.specs.Map.{lookup, remove_entry}
use Rattle.std.specs.Ordering.{match_ordering}
use Rattle.view_types.proofs.KeyOrder.{derived, same_key_itself}
use Rattle.view_types.specs.Keys.{key_order, same_key}
use Rattle.view_types.specs.contracts.key.ViewKeyOrd.TheImpl.{ghosts}
use Rattle.view_types.specs.declared.key.ViewKey.{ViewKey}
use Rattle.delta_core.specs.DirtySets.{with_touched, without}
use Rattle.delta_core.specs.declared.touched.Touch.{Touch}
use Rattle.delta_core.proofs.DirtyMaps.{none_from_test}

abbrev Touches : Type 0
Touches = List (ViewKey × Touch)

-- the last key goes first
pub without-push : (ks : List ViewKey) (k : ViewKey) (es : Touches) → without (ks ++ k ∷ []) es ≡ without ks (remove_entry (same_key k) es)
without-push [] k es = refl
without-push (j ∷ ks) k es = ap (remove_entry (same_key j)) (without-push ks k es)

-- ---- a key that isn't there

none_step : (k : ViewKey) (e : ViewKey × Touch) (es : Touches) (b : Bool) → same_key k e.0 ≡ b → lookup (same_key k) (e ∷ es) ≡ None
    → (lookup (same_key k) es ≡ None → remove_entry (same_key k) es ≡ es) → remove_entry (same_key k) (e ∷ es) ≡ e ∷ es
none_step k e es true is none later = let found : Some e.1 ≡ None = rw is at none in absurd (cc)
none_step k e es false is none later =
    let rest : lookup (same_key k) es ≡ None = rw is at none in
    rw is (ap (λ z. e ∷ z) (later rest))

none_out : (k : ViewKey) (es : Touches) → lookup (same_key k) es ≡ None → remove_entry (same_key k) es ≡ es
none_out k [] none = refl
none_out k (e ∷ es) none = none_step k e es (same_key k e.0) refl none (none_out k es)

first_out : (k : ViewKey) (t : Touch) (es : Touches) → remove_entry (same_key k) ((k, t) ∷ es) ≡ es
first_out k t es = let same = same_key_itself k in rw same refl

out_step : (k : ViewKey) (t : Touch) (e : ViewKey × Touch) (es : Touches) (o : Ordering) → key_order k e.0 ≡ o → lookup (same_key k) (e ∷ es) ≡ None
    → (lookup (same_key k) es ≡ None → remove_entry (same_key k) (with_touched es (k, t)) ≡ es)
    → remove_entry (same_key k) (match_ordering o ((k, t) ∷ e ∷ es) (e ∷ es) (e ∷ with_touched es (k, t))) ≡ e ∷ es
out_step k t e es Less is none later = first_out k t (e ∷ es)
out_step k t e es Equal is none later = let found : Some e.1 ≡ None = rw is at none in absurd (cc)
out_step k t e es Greater is none later =
    let rest : lookup (same_key k) es ≡ None = rw is at none in
    rw is (ap (λ z. e ∷ z) (later rest))

-- a key that goes in and out again
added_out : (k : ViewKey) (t : Touch) (es : Touches) → lookup (same_key k) es ≡ None → remove_entry (same_key k) (with_touched es (k, t)) ≡ es
added_out k t [] none = first_out k t []
added_out k t (e ∷ es) none = out_step k t e es (key_order k e.0) refl none (added_out k t es)

-- ---- steps of the loops

-- a key that isn't there is noted, and did not go in
pub noted_out : (ks : List ViewKey) (k : ViewKey) (es : Touches) → lookup (same_key k) es ≡ None → without (ks ++ k ∷ []) es ≡ without ks es
noted_out ks k es none = without-push ks k es ∙ ap (without ks) (none_out k es none)

-- a key that isn't there is noted, and went in
pub put_out : (ks : List ViewKey) (k : ViewKey) (t : Touch) (es : Touches) → lookup (same_key k) es ≡ None → without (ks ++ k ∷ []) (with_touched es (k, t)) ≡ without ks es
put_out ks k t es none = without-push ks k (with_touched es (k, t)) ∙ ap (without ks) (added_out k t es none)

-- what a map's call takes out, by the order of keys
pub removed_by : (k : ViewKey) (es : Touches) → remove_entry (is_at (ghosts.cmp k)) es ≡ remove_entry (same_key k) es
removed_by k es = ap (λ (R : ViewKey → ViewKey → Ordering). remove_entry (is_at (R k)) es) derived

-- what a map's call doesn't find isn't there
pub not_there : (k : ViewKey) (es : Touches) → is_some (lookup (is_at (ghosts.cmp k)) es) ≡ false → lookup (same_key k) es ≡ None
not_there k es absent =
    none_from_test (lookup (same_key k) es) (ap (λ (R : ViewKey → ViewKey → Ordering). is_some (lookup (is_at (R k)) es)) (sym derived) ∙ absent)
