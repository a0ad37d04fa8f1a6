-- Texts within texts.
use Rattle.std.proofs.Common.{◌≡◌, ℕ, List, [], ◌∷◌, ◌++◌, Bool, true, false, inl, inr, refl, sym, ap, nat_eq, ◌↔◌, drop, length}
use Rattle.std.proofs.lemmas.Bool.{or_cases, or_left, or_right}
use Rattle.std.proofs.lemmas.Bool.Decides.{Decides-eqb}
use Rattle.std.proofs.lemmas.Slice.Eq.{starts_is}
use Rattle.std.specs.List.{starts_with}
use Rattle.std.specs.Str.Iter.{HasSubslice}
use Rattle.expr_spec.specs.Values.{stands_within}

front : (s t : List ℕ) → starts_with nat_eq s t ≡ true → s ≡ t ++ drop (length t) s
front s t h = (starts_is Decides-eqb s t (starts_with nat_eq s t) refl).0 h

from_front : (s t b : List ℕ) → s ≡ t ++ b → starts_with nat_eq s t ≡ true
from_front s t b e = (starts_is Decides-eqb s t (starts_with nat_eq s t) refl).1 b e

within-split : (t s a b : List ℕ) → s ≡ a ++ (t ++ b) → stands_within t s ≡ true
within-split t [] [] b e = from_front [] t b e
within-split t [] (x ∷ a) b e = cc
within-split t (c ∷ s) [] b e = or_left _ _ (from_front (c ∷ s) t b e)
within-split t (c ∷ s) (x ∷ a) b e = or_right _ _ (within-split t s a b (cc))

behind : (t s : List ℕ) (c : ℕ) → HasSubslice s t → HasSubslice (c ∷ s) t
behind t s c h = (c ∷ h.0, h.1, ap (λ xs. c ∷ xs) h.2)

within-subslice : (t s : List ℕ) → stands_within t s ≡ true → HasSubslice s t
within-subslice t [] h = ([], drop (length t) [], front [] t h)
within-subslice t (c ∷ s) h =
    elim (or_cases (starts_with nat_eq (c ∷ s) t) (stands_within t s) h) [
      | inl here ↦ ([], drop (length t) (c ∷ s), front (c ∷ s) t here)
      | inr later ↦ behind t s c (within-subslice t s later)
    ]

same_tests : (r w : Bool) → (r ≡ true → w ≡ true) → (w ≡ true → r ≡ true) → r ≡ w
same_tests true w f g = sym (f refl)
same_tests false true f g = g refl
same_tests false false f g = refl

pub stands_within-subslice : (r : Bool) (s t : List ℕ) → (r ≡ true) ↔ HasSubslice s t → r ≡ stands_within t s
stands_within-subslice r s t h =
    same_tests r (stands_within t s)
    (λ (e : r ≡ true). let at = h.0 e in within-split t s at.0 at.1 at.2)
    (λ (e : stands_within t s ≡ true). h.1 (within-subslice t s e))
