-- Entries told by key.
use Rattle.std.proofs.Common.{◌≡◌, ℕ, zero, suc, ◌+◌, ◌<◌, Bool, true, false, cond, List, [], ◌∷◌, length, Option, Some, None, Ordering, Less, Equal, refl, sym, ◌∙◌, ap, subst, arith, insert, remove, slice_get, Contains}
use Rattle.std.specs.Cmp.{IsTotalOrder}
use Rattle.std.specs.List.{AllByRecursion, IsDistinct}
use Rattle.std.specs.List.Sorted.{IsStrictlySortedBy}
use Rattle.std.specs.Map.{keys_of, lookup}
use Rattle.std.specs.Option.{option_map}
use Rattle.std.proofs.lemmas.Cmp.{tied_itself}
use Rattle.std.proofs.lemmas.Option.{same_Some}
use Rattle.view_types.specs.Keys.{same_key}
use Rattle.view_types.specs.declared.key.ViewKey.{ViewKey}
use Rattle.view_types.proofs.KeyOrder.{same_key_is_equal, same_key_itself, same_key-symm}
use Rattle.delta_core.specs.Rows.{at_key}
use Rattle.rank_list.proofs.Order.{all_insert, all_remove}
use Rattle.key_map.specs.Keyed.{same_by}
use Rattle.key_map.proofs.Keyed.{all_from_none, all_get, none_from_all, none_parts}

-- two keys that are the same as a third are one
clash : {X : Type 0} (key : X → ViewKey) (x y : X) (k : ViewKey) → same_key (key x) k ≡ true → same_key (key y) k ≡ true → same_key (key y) (key x) ≡ false → ⊥
clash key x y k a b apart =
    let first : key x ≡ k = same_key_is_equal (key x) k a in
    let other : same_key (key y) (key x) ≡ true = ap (same_key (key y)) first ∙ b in
    let wrong : true ≡ false = sym other ∙ apart in cc

-- ---- an entry put in

swapped : {X : Type 0} (key : X → ViewKey) (x y : X) (k : ViewKey) (o : Option X) → same_key (key y) (key x) ≡ false → (b c : Bool) → same_key (key y) k ≡ b → same_key (key x) k ≡ c
    → cond b (Some y) (cond c (Some x) o) ≡ cond c (Some x) (cond b (Some y) o)
swapped key x y k o apart true true is there = absurd (clash key x y k there is apart)
swapped key x y k o apart true false is there = refl
swapped key x y k o apart false true is there = refl
swapped key x y k o apart false false is there = refl

pub at_key-insert : {X : Type 0} (key : X → ViewKey) (xs : List X) (i : ℕ) (x : X) (k : ViewKey) → at_key key (key x) xs ≡ None
    → at_key key k (insert xs i x) ≡ cond (same_key (key x) k) (Some x) (at_key key k xs)
at_key-insert key [] zero x k none = refl
at_key-insert key [] (suc i) x k none = refl
at_key-insert key (y ∷ xs) zero x k none = refl
at_key-insert key (y ∷ xs) (suc i) x k none =
    let parts = none_parts (same_key (key y) (key x)) y (at_key key (key x) xs) none in
    ap (λ o. cond (same_key (key y) k) (Some y) o) (at_key-insert key xs i x k parts.1)
    ∙ swapped key x y k (at_key key k xs) parts.0 (same_key (key y) k) (same_key (key x) k) refl refl

pub differ-insert : {X : Type 0} (key : X → ViewKey) (xs : List X) (i : ℕ) (x : X) → at_key key (key x) xs ≡ None → IsDistinct (same_by key) xs → IsDistinct (same_by key) (insert xs i x)
unfolding IsDistinct
differ-insert key [] zero x none s = (tt, tt)
differ-insert key [] (suc i) x none s = (tt, tt)
differ-insert key (y ∷ xs) zero x none s = (all_from_none key (key x) (y ∷ xs) none, s)
differ-insert key (y ∷ xs) (suc i) x none s =
    let parts = none_parts (same_key (key y) (key x)) y (at_key key (key x) xs) none in
    (all_insert (λ z. same_key (key y) (key z) ≡ false) xs i x s.0 parts.0, differ-insert key xs i x parts.1 s.1)

-- ---- an entry taken out

gone : {X : Type 0} (key : X → ViewKey) (y : X) (xs : List X) (k : ViewKey) → AllByRecursion (λ z. same_key (key y) (key z) ≡ false) xs → (b : Bool) → same_key (key y) k ≡ b
    → at_key key k xs ≡ cond b None (cond b (Some y) (at_key key k xs))
gone key y xs k all true is = ap (λ q. at_key key q xs) (sym (same_key_is_equal (key y) k is)) ∙ none_from_all key (key y) xs all
gone key y xs k all false is = refl

crossed : {X : Type 0} (key : X → ViewKey) (x y : X) (k : ViewKey) (o : Option X) → same_key (key y) (key x) ≡ false → (b c : Bool) → same_key (key y) k ≡ b → same_key (key x) k ≡ c
    → cond b (Some y) (cond c None o) ≡ cond c None (cond b (Some y) o)
crossed key x y k o apart true true is there = absurd (clash key x y k there is apart)
crossed key x y k o apart true false is there = refl
crossed key x y k o apart false true is there = refl
crossed key x y k o apart false false is there = refl

pub at_key-remove : {X : Type 0} (key : X → ViewKey) (xs : List X) (i : ℕ) (x : X) (k : ViewKey) → IsDistinct (same_by key) xs → slice_get xs i ≡ Some x
    → at_key key k (remove xs i) ≡ cond (same_key (key x) k) None (at_key key k xs)
unfolding IsDistinct
at_key-remove key [] i x k s is = absurd (let wrong : None ≡ Some x = is in cc)
at_key-remove key (y ∷ xs) zero x k s is =
    let P : _ → Type 0 = λ z. at_key key k xs ≡ cond (same_key (key z) k) None (cond (same_key (key y) k) (Some y) (at_key key k xs)) in
    subst P (same_Some y x is) (gone key y xs k s.0 (same_key (key y) k) refl)
at_key-remove key (y ∷ xs) (suc i) x k s is =
    ap (λ o. cond (same_key (key y) k) (Some y) o) (at_key-remove key xs i x k s.1 is)
    ∙ crossed key x y k (at_key key k xs) (all_get (λ z. same_key (key y) (key z) ≡ false) xs i x s.0 is) (same_key (key y) k) (same_key (key x) k) refl refl

pub differ-remove : {X : Type 0} (key : X → ViewKey) (xs : List X) (i : ℕ) → IsDistinct (same_by key) xs → IsDistinct (same_by key) (remove xs i)
unfolding IsDistinct
differ-remove key [] zero s = tt
differ-remove key [] (suc i) s = tt
differ-remove key (y ∷ xs) zero s = s.1
differ-remove key (y ∷ xs) (suc i) s = (all_remove (λ z. same_key (key y) (key z) ≡ false) xs i s.0, differ-remove key xs i s.1)

-- ---- by place

pub one_place : {K : Type 0} (R : K → K → Ordering) → IsTotalOrder R → (ks : List K) (i j : ℕ) (k : K) → IsStrictlySortedBy R ks → slice_get ks i ≡ Some k → slice_get ks j ≡ Some k → i ≡ j
unfolding IsStrictlySortedBy
one_place R o [] i j k s a b = absurd (let wrong : None ≡ Some k = a in cc)
one_place R o (x ∷ ks) zero zero k s a b = refl
one_place R o (x ∷ ks) zero (suc j) k s a b =
    let less : R x k ≡ Less = all_get (λ y. R x y ≡ Less) ks j k s.0 b in
    let same : x ≡ k = same_Some x k a in
    let wrong : Less ≡ Equal = sym less ∙ ap (λ y. R y k) same ∙ tied_itself o k in absurd (cc)
one_place R o (x ∷ ks) (suc i) zero k s a b =
    let less : R x k ≡ Less = all_get (λ y. R x y ≡ Less) ks i k s.0 a in
    let same : x ≡ k = same_Some x k b in
    let wrong : Less ≡ Equal = sym less ∙ ap (λ y. R y k) same ∙ tied_itself o k in absurd (cc)
one_place R o (x ∷ ks) (suc i) (suc j) k s a b = ap suc (one_place R o ks i j k s.1 a b)
