-- What the rounding of quotients and of buckets of numbers means.
use Rattle.std.specs.Prelude.{◌≡◌, ℕ, zero, suc, ℤ, pos, negsuc, ◌+ℤ◌, ◌*ℤ◌, ◌≤ℤ◌, ◌<ℤ◌}

-- q times b reaches a or falls short of it, and one more passes it; below zero the other way round
abbrev pub IsFloorQuotient : ℤ → ℤ → ℤ → Type 0
IsFloorQuotient a (pos zero) q = Unit {0}
IsFloorQuotient a (pos (suc n)) q = ((q *ℤ pos (suc n)) ≤ℤ a) × (a <ℤ (q *ℤ pos (suc n) +ℤ pos (suc n)))
IsFloorQuotient a (negsuc n) q = (a ≤ℤ (q *ℤ negsuc n)) × ((q *ℤ negsuc n +ℤ negsuc n) <ℤ a)

-- m is a multiple of n that is at most a, and the next multiple is above a
pub record IsMultipleBelow (a m : ℤ) (n : ℕ) : Type 0 where
  pub times : ℤ
  pub multiple : m ≡ times *ℤ pos n
  pub not_above : m ≤ℤ a
  pub greatest : a <ℤ (m +ℤ pos n)
