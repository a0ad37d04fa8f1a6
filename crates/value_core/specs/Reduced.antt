-- What it means that a fraction is in its lowest terms. It speaks of whole numbers alone.
use Rattle.std.specs.Prelude.{◌≡◌, ◌^◌, ℤ, pos, neg_ℤ, ◌*ℤ◌, ◌≤ℤ◌}

-- `a` over `d` is `n` over `c`, and no positive denominator below `d` has a whole numerator that gives it
pub record IsReduced (n c a d : ℤ) : Type 0 where
  pub positive : pos 1 ≤ℤ d
  pub equal : a *ℤ c ≡ n *ℤ d
  pub least : (b e : ℤ) → pos 1 ≤ℤ e → b *ℤ c ≡ n *ℤ e → d ≤ℤ e

-- at most 2 ^ 100 away from 0
abbrev pub IsInReach : ℤ → Type 0
IsInReach z = (neg_ℤ (pos (2 ^ 100)) ≤ℤ z) × (z ≤ℤ pos (2 ^ 100))
