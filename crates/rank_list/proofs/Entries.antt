-- Entries whose keys ascend by the total order R: the place of a key among them.
use Rattle.std.proofs.Common.{◌≡◌, ℕ, zero, suc, ◌+◌, ◌<◌, ◌≤◌, Bool, true, false, List, [], ◌∷◌, ◌++◌, length, Option, Some, None, refl, ap, sym, ◌∙◌, subst, arith, length-append, insert, remove, slice_get, Contains}
use Rattle.std.specs.List.Sorted.{IsStrictlySortedBy}
use Rattle.std.specs.Cmp.{IsTotalOrder}
use Rattle.std.specs.Map.{keys_of}
use Rattle.std.specs.Option.{option_map}
use Rattle.std.specs.Ordering.{is_lt}
use Rattle.std.specs.declared.cmp.Ordering.{Ordering}
use Rattle.std.specs.declared.cmp.Ordering.TheVariants.{Less, Equal}
use Rattle.std.proofs.lemmas.Map.Entries.{length-keys_of}
use Rattle.rank_list.specs.Place.{place_in}
use Rattle.rank_list.proofs.Order.{Contains-from_slice_get, absent_at_end, absent_from_other, place_in-le-length, place_left, place_right, same-place_in, slice_get-place_in, sorted_back, sorted_front, sorted_insert, sorted_remove}

pub keys_of-append : {K X : Type 0} (l r : List (K × X)) → keys_of (l ++ r) ≡ keys_of l ++ keys_of r
keys_of-append [] r = refl
keys_of-append (e ∷ l) r = ap (λ ks. e.0 ∷ ks) (keys_of-append l r)

pub keys_of-insert : {K X : Type 0} (es : List (K × X)) (i : ℕ) (e : K × X) → keys_of (insert es i e) ≡ insert (keys_of es) i e.0
keys_of-insert [] zero e = refl
keys_of-insert [] (suc i) e = refl
keys_of-insert (d ∷ es) zero e = refl
keys_of-insert (d ∷ es) (suc i) e = ap (λ ks. d.0 ∷ ks) (keys_of-insert es i e)

pub keys_of-remove : {K X : Type 0} (es : List (K × X)) (i : ℕ) → keys_of (remove es i) ≡ remove (keys_of es) i
keys_of-remove [] zero = refl
keys_of-remove [] (suc i) = refl
keys_of-remove (d ∷ es) zero = refl
keys_of-remove (d ∷ es) (suc i) = ap (λ ks. d.0 ∷ ks) (keys_of-remove es i)

pub slice_get-keys_of : {K X : Type 0} (es : List (K × X)) (i : ℕ) → slice_get (keys_of es) i ≡ option_map (λ e. e.0) (slice_get es i)
slice_get-keys_of [] i = refl
slice_get-keys_of (e ∷ es) zero = refl
slice_get-keys_of (e ∷ es) (suc i) = slice_get-keys_of es i

pub key_found : {K X : Type 0} (es : List (K × X)) (i : ℕ) (e : K × X) → slice_get es i ≡ Some e → slice_get (keys_of es) i ≡ Some e.0
key_found es i e is = slice_get-keys_of es i ∙ ap (option_map (λ e. e.0)) is

-- ---- a walk down

pub keyed_right : {K X : Type 0} (R : K → K → Ordering) → IsTotalOrder R → (l : List (K × X)) (e : K × X) (r : List (K × X)) (k : K) → IsStrictlySortedBy R (keys_of (l ++ e ∷ r)) → is_lt (R e.0 k) ≡ true
    → place_in R (keys_of (l ++ e ∷ r)) k ≡ length l + 1 + place_in R (keys_of r) k
keyed_right R o l e r k s less =
    let same : keys_of (l ++ e ∷ r) ≡ keys_of l ++ e.0 ∷ keys_of r = keys_of-append l (e ∷ r) in
    ap (λ ks. place_in R ks k) same ∙ place_right R o (keys_of l) e.0 (keys_of r) k (subst (IsStrictlySortedBy R) same s) less
    ∙ ap (λ n. n + 1 + place_in R (keys_of r) k) (length-keys_of l)

pub keyed_left : {K X : Type 0} (R : K → K → Ordering) → IsTotalOrder R → (l : List (K × X)) (e : K × X) (r : List (K × X)) (k : K) → IsStrictlySortedBy R (keys_of (l ++ e ∷ r)) → is_lt (R e.0 k) ≡ false
    → place_in R (keys_of (l ++ e ∷ r)) k ≡ place_in R (keys_of l) k
keyed_left R o l e r k s other =
    let same : keys_of (l ++ e ∷ r) ≡ keys_of l ++ e.0 ∷ keys_of r = keys_of-append l (e ∷ r) in
    ap (λ ks. place_in R ks k) same ∙ place_left R o (keys_of l) e.0 (keys_of r) k (subst (IsStrictlySortedBy R) same s) other

pub keyed_front : {K X : Type 0} (R : K → K → Ordering) (l : List (K × X)) (e : K × X) (r : List (K × X)) → IsStrictlySortedBy R (keys_of (l ++ e ∷ r)) → IsStrictlySortedBy R (keys_of l)
keyed_front R l e r s = sorted_front R (keys_of l) (keys_of (e ∷ r)) (subst (IsStrictlySortedBy R) (keys_of-append l (e ∷ r)) s)

pub keyed_back : {K X : Type 0} (R : K → K → Ordering) (l : List (K × X)) (e : K × X) (r : List (K × X)) → IsStrictlySortedBy R (keys_of (l ++ e ∷ r)) → IsStrictlySortedBy R (keys_of r)
keyed_back R l e r s = sorted_back R (keys_of l) e.0 (keys_of r) (subst (IsStrictlySortedBy R) (keys_of-append l (e ∷ r)) s)

pub keyed-le-length : {K X : Type 0} (R : K → K → Ordering) (es : List (K × X)) (k : K) → place_in R (keys_of es) k ≤ length es
keyed-le-length R es k = omega (arith, place_in-le-length R (keys_of es) k, length-keys_of es)

pub ruleset keyed_descent = (keyed_right, keyed_left, keyed_front, keyed_back, keyed-le-length, length-append)

-- ---- what is at the place of a key

pub keyed_same : {K X : Type 0} (R : K → K → Ordering) → IsTotalOrder R → ((x y : K) → R x y ≡ Equal → x ≡ y) → (es : List (K × X)) (k : K) (e : K × X) → IsStrictlySortedBy R (keys_of es)
    → slice_get es (place_in R (keys_of es) k) ≡ Some e → is_lt (R k e.0) ≡ false → k ≡ e.0
keyed_same R o exact es k e s at after = same-place_in R o exact (keys_of es) k e.0 s (key_found es (place_in R (keys_of es) k) e at) after

pub keyed_absent : {K X : Type 0} (R : K → K → Ordering) → IsTotalOrder R → (es : List (K × X)) (k : K) (e : K × X) → IsStrictlySortedBy R (keys_of es)
    → slice_get es (place_in R (keys_of es) k) ≡ Some e → is_lt (R k e.0) ≡ true → Contains (keys_of es) k → ⊥
keyed_absent R o es k e s at before there = absent_from_other R o (keys_of es) k e.0 s (key_found es (place_in R (keys_of es) k) e at) before there

pub ruleset keyed_presence = (keyed_same, keyed_absent, key_found, Contains-from_slice_get)

-- by way of the tree's entries, which are es
pub keyed_at_end : {K X : Type 0} (R : K → K → Ordering) → IsTotalOrder R → (es tree : List (K × X)) (k : K) (at : ℕ) → tree ≡ es → IsStrictlySortedBy R (keys_of tree) → at ≡ place_in R (keys_of tree) k → None ≡ slice_get tree at
    → Contains (keys_of es) k → ⊥
keyed_at_end R o es tree k at is s at_is none there =
    absent_at_end R o (keys_of es) (keys_of tree) k at (ap keys_of is) s at_is (ap (option_map (λ e. e.0)) none ∙ sym (slice_get-keys_of tree at)) there

-- ---- edits

pub keyed_insert : {K X : Type 0} (R : K → K → Ordering) → IsTotalOrder R → ((x y : K) → R x y ≡ Equal → x ≡ y) → (es : List (K × X)) (e : K × X) → IsStrictlySortedBy R (keys_of es) → (Contains (keys_of es) e.0 → ⊥)
    → IsStrictlySortedBy R (keys_of (insert es (place_in R (keys_of es) e.0) e))
keyed_insert R o exact es e s absent =
    subst (IsStrictlySortedBy R) (sym (keys_of-insert es (place_in R (keys_of es) e.0) e)) (sorted_insert R o exact (keys_of es) e.0 s absent)

pub keyed_remove : {K X : Type 0} (R : K → K → Ordering) (es : List (K × X)) (i : ℕ) → IsStrictlySortedBy R (keys_of es) → IsStrictlySortedBy R (keys_of (remove es i))
keyed_remove R es i s = subst (IsStrictlySortedBy R) (sym (keys_of-remove es i)) (sorted_remove R (keys_of es) i s)

pub within_found : {K X : Type 0} (es : List (K × X)) (i : ℕ) (k : K) → slice_get (keys_of es) i ≡ Some k → i < length es
within_found [] i k is = cc
within_found (e ∷ es) zero k is = omega arith
within_found (e ∷ es) (suc i) k is = let later = within_found es i k is in omega arith

pub key_is : {K X : Type 0} (es : List (K × X)) (i : ℕ) (k : K) (e : K × X) → slice_get (keys_of es) i ≡ Some k → slice_get es i ≡ Some e → e.0 ≡ k
key_is es i k e is at = let own = key_found es i e at in cc

pub ruleset keyed_removal = (keyed_remove, key_found, keyed-le-length, within_found, key_is)

-- by way of the tree's entries, which are es, and the moved tree's
pub keyed_arrived : {K X : Type 0} (R : K → K → Ordering) → IsTotalOrder R → ((x y : K) → R x y ≡ Equal → x ≡ y) → (es tree moved : List (K × X)) (k : K) (e leaf : K × X) (at : ℕ) (new : List (K × X)) → tree ≡ es → moved ≡ tree → leaf ≡ e → e.0 ≡ k
    → IsStrictlySortedBy R (keys_of tree) → (Contains (keys_of es) k → ⊥) → at ≡ place_in R (keys_of tree) k → new ≡ insert moved at leaf → IsStrictlySortedBy R (keys_of new)
keyed_arrived R o exact es tree moved k e leaf at new is moved_is leaf_is key s absent at_is grown =
    let sorted : IsStrictlySortedBy R (keys_of es) = subst (λ xs. IsStrictlySortedBy R (keys_of xs)) is s in
    let at_es : at ≡ place_in R (keys_of es) e.0 = at_is ∙ ap (λ xs. place_in R (keys_of xs) k) is ∙ ap (place_in R (keys_of es)) (sym key) in
    let whole : new ≡ insert es (place_in R (keys_of es) e.0) e = grown ∙ ap (λ xs. insert xs at leaf) (moved_is ∙ is) ∙ ap (λ n. insert es n leaf) at_es ∙ ap (insert es (place_in R (keys_of es) e.0)) leaf_is in
    subst (λ xs. IsStrictlySortedBy R (keys_of xs)) (sym whole) (keyed_insert R o exact es e sorted (λ there. absent (subst (Contains (keys_of es)) key there)))
