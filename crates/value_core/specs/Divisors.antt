-- The greatest common divisor, as Euclid's algorithm finds it.
use Rattle.std.specs.Prelude.{ℕ, ◌*◌}
use Prim.Native.Nat.{◌∣◌}

-- `g` divides both numbers, and whatever divides both after each is taken `e` times divides `g` taken `e` times
pub record IsGreatestDivisor (a b g : ℕ) : Type 0 where
  pub first : g ∣ a
  pub second : g ∣ b
  pub shared : (x e : ℕ) → x ∣ a * e → x ∣ b * e → x ∣ g * e
