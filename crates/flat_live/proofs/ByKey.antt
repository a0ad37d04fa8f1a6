-- Lists that have the same under each key.
use Rattle.std.proofs.Common.{◌≡◌, ℕ, Bool, true, false, cond, List, [], ◌∷◌, Some, None, refl, sym, ◌∙◌, ap, remove, slice_get}
use Rattle.std.specs.List.{AllByRecursion, IsDistinct}
use Rattle.std.specs.List.Sorted.{IsPermutation}
use Rattle.std.proofs.lemmas.List.Sorted.{IsPermutation-refl, IsPermutation-sym, IsPermutation-trans, IsPermutation-cons, IsPermutation-remove}
use Rattle.std.proofs.lemmas.Option.{get_or_from_slice_get, slice_get_within}
use Rattle.view_types.specs.Keys.{same_key}
use Rattle.view_types.specs.declared.key.ViewKey.{ViewKey}
use Rattle.view_types.proofs.KeyOrder.{same_key_is_equal, same_key_itself}
use Rattle.delta_core.specs.Rows.{at_key}
use Rattle.key_map.specs.Keyed.{same_by}
use Rattle.key_map.proofs.Keyed.{all_from_none, at_key-key, none_from_all, somewhere}
use Rattle.live_list.proofs.Told.{at_key-remove, differ-remove}

-- the first one's key isn't behind it
gone : {X : Type 0} (key : X → ViewKey) (x : X) (xs : List X) (k : ViewKey) → AllByRecursion (λ z. same_key (key x) (key z) ≡ false) xs → (b : Bool) → same_key (key x) k ≡ b
    → at_key key k xs ≡ cond b None (cond b (Some x) (at_key key k xs))
gone key x xs k all true is = ap (λ q. at_key key q xs) (sym (same_key_is_equal (key x) k is)) ∙ none_from_all key (key x) xs all
gone key x xs k all false is = refl

head_found : {X : Type 0} (key : X → ViewKey) (x : X) (xs : List X) → at_key key (key x) (x ∷ xs) ≡ Some x
head_found key x xs = ap (λ b. cond b (Some x) (at_key key (key x) xs)) (same_key_itself (key x))

-- one is the other in another order
pub permuted : {X : Type 0} (key : X → ViewKey) (xs ys : List X) → IsDistinct (same_by key) xs → IsDistinct (same_by key) ys → ((k : ViewKey) → at_key key k xs ≡ at_key key k ys) → IsPermutation xs ys
unfolding IsDistinct
permuted key [] [] dx dy same = IsPermutation-refl []
permuted key [] (y ∷ ys) dx dy same = absurd (let wrong : None ≡ Some y = same (key y) ∙ head_found key y ys in cc)
permuted {X} key (x ∷ xs) ys dx dy same =
    let here : at_key key (key x) ys ≡ Some x = sym (same (key x)) ∙ head_found key x xs in
    let w : (i : ℕ) × (slice_get ys i ≡ Some x) = somewhere key (key x) ys x here in
    let rest : List X = remove ys w.0 in
    let others : IsPermutation xs rest =
    permuted key xs rest dx.1 (differ-remove key ys w.0 dy)
    (λ k. gone key x xs k dx.0 (same_key (key x) k) refl ∙ ap (cond (same_key (key x) k) None) (same k) ∙ sym (at_key-remove key ys w.0 x k dy w.1)) in
    IsPermutation-trans (x ∷ xs) (x ∷ rest) ys (IsPermutation-cons x xs rest others)
    (IsPermutation-sym ys (x ∷ rest) (IsPermutation-remove ys w.0 x (slice_get_within ys w.0 x w.1) (sym (get_or_from_slice_get ys w.0 x x w.1))))

-- an item taken out
pub taken : {X : Type 0} (key : X → ViewKey) (first last : List X) (k : ViewKey) (x : X) → IsDistinct (same_by key) first → IsDistinct (same_by key) last → at_key key k first ≡ Some x
    → ((q : ViewKey) → at_key key q last ≡ cond (same_key k q) None (at_key key q first)) → IsPermutation first (x ∷ last)
unfolding IsDistinct
taken {X} key first last k x df dl found told =
    let one : key x ≡ k = at_key-key key k first x found in
    let none : at_key key (key x) last ≡ None = told (key x) ∙ ap (λ z. cond (same_key z (key x)) None (at_key key (key x) first)) (sym one) ∙ ap (λ b. cond b None (at_key key (key x) first)) (same_key_itself (key x)) in
    permuted key first (x ∷ last) df (all_from_none key (key x) last none, dl) (λ q. by one q (same_key (key x) q) refl)
  where
    by : key x ≡ k → (q : ViewKey) (b : Bool) → same_key (key x) q ≡ b → at_key key q first ≡ cond b (Some x) (at_key key q last)
    by one q true is = ap (λ z. at_key key z first) (sym (same_key_is_equal (key x) q is) ∙ one) ∙ found
    by one q false is = sym (told q ∙ ap (λ z. cond (same_key z q) None (at_key key q first)) (sym one) ∙ ap (λ b. cond b None (at_key key q first)) is)

-- nothing to take out
pub untaken : {X : Type 0} (key : X → ViewKey) (first last : List X) (k : ViewKey) → IsDistinct (same_by key) first → IsDistinct (same_by key) last → at_key key k first ≡ None
    → ((q : ViewKey) → at_key key q last ≡ cond (same_key k q) None (at_key key q first)) → IsPermutation first last
untaken {X} key first last k df dl none told = permuted key first last df dl (λ q. by q (same_key k q) refl ∙ sym (told q))
  where
    by : (q : ViewKey) (b : Bool) → same_key k q ≡ b → at_key key q first ≡ cond b None (at_key key q first)
    by q true is = ap (λ z. at_key key z first) (sym (same_key_is_equal k q is)) ∙ none
    by q false is = refl
