-- Entries by what their look-ups give.
use Rattle.std.proofs.Common.{◌≡◌, Bool, true, false, cond, List, [], ◌∷◌, Option, Some, None, Less, Equal, Greater, Ordering, refl, sym, ◌∙◌, ap}
use Rattle.std.specs.List.Sorted.{IsStrictlySortedBy}
use Rattle.std.specs.Map.{keys_of, lookup}
use Rattle.std.specs.Ordering.{ordering_reverse}
use Rattle.std.proofs.lemmas.Map.{lookup-none}
use Rattle.std.proofs.lemmas.Map.Entries.{none_below_head}
use Rattle.std.proofs.lemmas.Map.Keys.{sorted_tail}
use Rattle.std.proofs.lemmas.Option.{same_Some}
use Rattle.view_types.specs.Keys.{key_order, same_key}
use Rattle.view_types.specs.declared.key.ViewKey.{ViewKey}
use Rattle.view_types.proofs.KeyOrder as keys

head_found : {X : Type 0} (e : ViewKey × X) (es : List (ViewKey × X)) → lookup (same_key e.0) (e ∷ es) ≡ Some e.1
head_found e es = ap (λ b. cond b (Some e.1) (lookup (same_key e.0) es)) (keys.same_key_itself e.0)

head_less : {X : Type 0} (k : ViewKey) (e : ViewKey × X) (es : List (ViewKey × X)) → IsStrictlySortedBy key_order (keys_of (e ∷ es)) → key_order k e.0 ≡ Less → lookup (same_key k) (e ∷ es) ≡ None
head_less k e es up less = lookup-none (same_key k) (e ∷ es) (none_below_head keys.total k e es up less)

tail_none : {X : Type 0} (e : ViewKey × X) (es : List (ViewKey × X)) → IsStrictlySortedBy key_order (keys_of (e ∷ es)) → lookup (same_key e.0) es ≡ None
unfolding IsStrictlySortedBy
tail_none e [] up = refl
tail_none e (d ∷ es) up = head_less e.0 d es up.1 up.0.0

not_less : {X : Type 0} (a b : ViewKey × X) (as_ bs : List (ViewKey × X)) → IsStrictlySortedBy key_order (keys_of (b ∷ bs)) → key_order a.0 b.0 ≡ Less
    → lookup (same_key a.0) (a ∷ as_) ≡ lookup (same_key a.0) (b ∷ bs) → ⊥
not_less a b as_ bs down less same = let wrong : Some a.1 ≡ None = sym (head_found a as_) ∙ same ∙ head_less a.0 b bs down less in cc

tails : {X : Type 0} (q : ViewKey) (a : ViewKey × X) (as_ bs : List (ViewKey × X)) (v : X) → IsStrictlySortedBy key_order (keys_of (a ∷ as_)) → lookup (same_key a.0) bs ≡ None
    → lookup (same_key q) (a ∷ as_) ≡ cond (same_key q a.0) (Some v) (lookup (same_key q) bs) → lookup (same_key q) as_ ≡ lookup (same_key q) bs
tails q a as_ bs v up none same = by (same_key q a.0) refl same
  where
    by : (b : Bool) → same_key q a.0 ≡ b → cond b (Some a.1) (lookup (same_key q) as_) ≡ cond b (Some v) (lookup (same_key q) bs) → lookup (same_key q) as_ ≡ lookup (same_key q) bs
    by true is h =
        let one : q ≡ a.0 = keys.same_key_is_equal q a.0 is in
        ap (λ z. lookup (same_key z) as_) one ∙ tail_none a as_ up ∙ sym none ∙ ap (λ z. lookup (same_key z) bs) (sym one)
    by false is h = h

both : {X : Type 0} (a b : ViewKey × X) (as_ bs : List (ViewKey × X)) → a.0 ≡ b.0 → a.1 ≡ b.1 → as_ ≡ bs → a ∷ as_ ≡ b ∷ bs
both a b as_ bs k v rest = λ i. (k i, v i) ∷ rest i

pub by_lookups : {X : Type 0} (a b : List (ViewKey × X)) → IsStrictlySortedBy key_order (keys_of a) → IsStrictlySortedBy key_order (keys_of b) → ((q : ViewKey) → lookup (same_key q) a ≡ lookup (same_key q) b) → a ≡ b
by_lookups [] [] up down same = refl
by_lookups [] (b ∷ bs) up down same = absurd (let wrong : None ≡ Some b.1 = same b.0 ∙ head_found b bs in cc)
by_lookups (a ∷ as_) [] up down same = absurd (let wrong : Some a.1 ≡ None = sym (head_found a as_) ∙ same a.0 in cc)
by_lookups (a ∷ as_) (b ∷ bs) up down same =
    by (key_order a.0 b.0) refl (λ each. by_lookups as_ bs (sorted_tail key_order a.0 (keys_of as_) up) (sorted_tail key_order b.0 (keys_of bs) down) each)
  where
    by : (o : Ordering) → key_order a.0 b.0 ≡ o → (((q : ViewKey) → lookup (same_key q) as_ ≡ lookup (same_key q) bs) → as_ ≡ bs) → a ∷ as_ ≡ b ∷ bs
    by Less is rest = absurd (not_less a b as_ bs down is (same a.0))
    by Greater is rest = absurd (not_less b a bs as_ up (keys.total.antisymm b.0 a.0 ∙ ap ordering_reverse is) (sym (same b.0)))
    by Equal is rest =
        let one : a.0 ≡ b.0 = keys.exact a.0 b.0 is in
        let none : lookup (same_key a.0) bs ≡ None = ap (λ z. lookup (same_key z) bs) one ∙ tail_none b bs down in
        let value : Some a.1 ≡ Some b.1 = sym (head_found a as_) ∙ same a.0 ∙ ap (λ z. lookup (same_key z) (b ∷ bs)) one ∙ head_found b bs in
        both a b as_ bs one (same_Some a.1 b.1 value)
        (rest (λ q. tails q a as_ bs b.1 up none (same q ∙ ap (λ z. cond (same_key q z) (Some b.1) (lookup (same_key q) bs)) (sym one))))
