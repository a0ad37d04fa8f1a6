-- What the calls of an ordered map make of touched keys, and the data of a set of them.
use Rattle.std.proofs.Common.{◌≡◌, ℕ, ◌<◌, ◌≤◌, Bool, true, false, cond, List, [], ◌∷◌, length, Option, Some, None, is_some, Ordering, Less, Equal, Greater, nat_lt, refl, sym, ap, ◌∙◌, subst, arith}
use borrow.Author.Tests.{ltb-true}
use Rattle.std.proofs.lemmas.Bool.{lt-ltb}
use Rattle.std.proofs.lemmas.Map.{lookup-none}
use Rattle.std.proofs.lemmas.Map.Entries.{none_below_head}
use Rattle.std.proofs.lemmas.Map.Keys.{sorted_tail}
use Rattle.std.specs.BTreeMap.{insert_entry, is_at}
use Rattle.std.specs.List.Sorted.{IsStrictlySortedBy}
use Rattle.std.specs.Map.{keys_of, lookup}
use Rattle.std.specs.Ordering.{match_ordering}
use Rattle.view_types.proofs.KeyOrder as order
use Rattle.view_types.specs.Keys.{key_order, same_key}
use Rattle.view_types.specs.contracts.key.ViewKeyOrd.TheImpl.{ghosts}
use Rattle.view_types.specs.declared.key.ViewKey.{ViewKey}
use Rattle.delta_core.specs.DirtySets.{dirty_of, joined, with_touched}
use Rattle.delta_core.specs.declared.touched.Touch.{Touch}

abbrev Touches : Type 0
Touches = List (ViewKey × Touch)

-- what holds of the order of keys holds of the map's comparison
of_map : (P : (ViewKey → ViewKey → Ordering) → Type 0) → P key_order → P ghosts.cmp
of_map P h = subst P (sym order.derived) h

pub none_from_test : {X : Type 0} (o : Option X) → is_some o ≡ false → o ≡ None
none_from_test None h = refl
none_from_test (Some x) h = absurd (let wrong : true ≡ false = h in cc)

-- ---- one key more

new_step : (k : ViewKey) (t : Touch) (e : ViewKey × Touch) (es : Touches) (o : Ordering) → key_order k e.0 ≡ o → lookup (same_key k) (e ∷ es) ≡ None
    → (lookup (same_key k) es ≡ None → insert_entry key_order es k t ≡ with_touched es (k, t))
    → insert_entry key_order (e ∷ es) k t ≡ with_touched (e ∷ es) (k, t)
new_step k t e es Less is none later = rw is refl
new_step k t e es Equal is none later = let found : Some e.1 ≡ None = rw is at none in absurd (cc)
new_step k t e es Greater is none later =
    let absent : lookup (same_key k) es ≡ None = rw is at none in
    rw is (ap (λ z. e ∷ z) (later absent))

new_by_order : (k : ViewKey) (t : Touch) (es : Touches) → lookup (same_key k) es ≡ None → insert_entry key_order es k t ≡ with_touched es (k, t)
new_by_order k t [] none = refl
new_by_order k t (e ∷ es) none = new_step k t e es (key_order k e.0) refl none (new_by_order k t es)

known_step : (k : ViewKey) (t : Touch) (e : ViewKey × Touch) (es : Touches) (o : Ordering) → key_order k e.0 ≡ o → IsStrictlySortedBy key_order (keys_of (e ∷ es))
    → is_some (lookup (same_key k) (e ∷ es)) ≡ true → (is_some (lookup (same_key k) es) ≡ true → es ≡ with_touched es (k, t))
    → e ∷ es ≡ with_touched (e ∷ es) (k, t)
known_step k t e es Less is sorted there later =
    let none : lookup (same_key k) (e ∷ es) ≡ None = lookup-none (same_key k) (e ∷ es) (none_below_head order.total k e es sorted is) in
    let wrong : false ≡ true = sym (ap is_some none) ∙ there in
    absurd (cc)
known_step k t e es Equal is sorted there later = rw is refl
known_step k t e es Greater is sorted there later =
    let found : is_some (lookup (same_key k) es) ≡ true = rw is at there in
    rw is (ap (λ z. e ∷ z) (later found))

known_by_order : (k : ViewKey) (t : Touch) (es : Touches) → IsStrictlySortedBy key_order (keys_of es) → is_some (lookup (same_key k) es) ≡ true → es ≡ with_touched es (k, t)
known_by_order k t [] sorted there = absurd (let wrong : false ≡ true = there in cc)
known_by_order k t (e ∷ es) sorted there =
    known_step k t e es (key_order k e.0) refl sorted there (known_by_order k t es (sorted_tail key_order e.0 (keys_of es) sorted))

-- a key that the map lacks goes in
pub touched_new : (k : ViewKey) (t : Touch) (old new : Touches) → is_some (lookup (is_at (ghosts.cmp k)) old) ≡ false → new ≡ insert_entry ghosts.cmp old k t → new ≡ with_touched old (k, t)
touched_new k t old new = of_map
    (λ R. is_some (lookup (is_at (R k)) old) ≡ false → new ≡ insert_entry R old k t → new ≡ with_touched old (k, t))
    (λ absent put. put ∙ new_by_order k t old (none_from_test (lookup (same_key k) old) absent))

-- a key that the map has stays
pub touched_known : (k : ViewKey) (t : Touch) (old : Touches) → IsStrictlySortedBy ghosts.cmp (keys_of old) → is_some (lookup (is_at (ghosts.cmp k)) old) ≡ true → old ≡ with_touched old (k, t)
touched_known k t old = of_map
    (λ R. IsStrictlySortedBy R (keys_of old) → is_some (lookup (is_at (R k)) old) ≡ true → old ≡ with_touched old (k, t))
    (known_by_order k t old)

-- ---- how many keys there are

longer_by_one : (es : Touches) (t : ViewKey × Touch) → length es ≤ length (with_touched es t)
longer_by_one [] t = omega arith
longer_by_one (e ∷ es) t =
    elim (key_order t.0 e.0) as (λ o. length (e ∷ es) ≤ length (match_ordering o (t ∷ e ∷ es) (e ∷ es) (e ∷ with_touched es t))) [
      | Less ↦ omega arith
      | Equal ↦ omega arith
      | Greater ↦ let more = longer_by_one es t in omega arith
    ]

pub length-joined : (es ts : Touches) → length es ≤ length (joined es ts)
length-joined es [] = omega arith
length-joined es (t ∷ ts) =
    let first = longer_by_one es t in
    let more = length-joined (with_touched es t) ts in
    omega arith

-- ---- what a set knows

over_stays : (bound : ℕ) (all ts : Touches) → true ≡ nat_lt bound (length all) → nat_lt bound (length (joined all ts)) ≡ true
over_stays bound all ts over =
    let less : bound < length all = ltb-true bound (length all) (sym over) in
    let more = length-joined all ts in
    lt-ltb bound (length (joined all ts)) (omega arith)

pub over_known : (bound : ℕ) (all ts : Touches) (over : Bool) → over ≡ true → over ≡ (dirty_of bound all false).over → true ≡ (dirty_of bound (joined all ts) false).over
over_known bound all ts over is is_over = sym (over_stays bound all ts (sym is ∙ is_over))

pub none_known : (bound : ℕ) (all ts known : Touches) (over : Bool) → over ≡ true → over ≡ (dirty_of bound all false).over → known ≡ (dirty_of bound all false).keys
    → known ≡ (dirty_of bound (joined all ts) false).keys
none_known bound all ts known over is is_over known_is =
    let none : known ≡ [] = known_is ∙ ap (λ b. cond b [] all) (sym is_over ∙ is) in
    none ∙ sym (ap (λ b. cond b [] (joined all ts)) (over_stays bound all ts (sym is ∙ is_over)))
