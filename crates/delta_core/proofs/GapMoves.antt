-- Rows around a gap: a row that goes over it, and a row that comes in.
use Rattle.std.proofs.Common.{◌≡◌, ℕ, List, [], ◌∷◌, ◌++◌, length, take, drop, reverse, sym, ap, ◌∙◌}
use Rattle.std.proofs.lemmas.List.{append_assoc, drop_at, reverse-append, take_at}

module _ {X : Type 0} where
  pub one_over : (front back : List X) (r : X) → front ++ reverse (back ++ r ∷ []) ≡ (front ++ r ∷ []) ++ reverse back
  one_over front back r = ap (λ z. front ++ z) (reverse-append back (r ∷ [])) ∙ sym (append_assoc front (r ∷ []) (reverse back))

  pub one_back : (front back : List X) (r : X) → (front ++ r ∷ []) ++ reverse back ≡ front ++ reverse (back ++ r ∷ [])
  one_back front back r = sym (one_over front back r)

  -- a row comes in where the gap stands
  pub put_here : (front back all : List X) (n : ℕ) (r : X) → front ++ back ≡ all → length front ≡ n → (front ++ r ∷ []) ++ back ≡ take n all ++ r ∷ drop n all
  put_here front back all n r whole place =
      append_assoc front (r ∷ []) back
      ∙ ap (λ z. z ++ r ∷ back) (sym (take_at front back n place)) ∙ ap (λ z. take n (front ++ back) ++ r ∷ z) (sym (drop_at front back n place))
      ∙ ap (λ z. take n z ++ r ∷ drop n z) whole
