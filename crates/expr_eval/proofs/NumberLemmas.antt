-- Quotients and remainders by a number below zero, as the code takes them.
use Rattle.std.proofs.Common.{◌≡◌, ℕ, zero, suc, refl, ap, arith, ℤ, pos, negsuc, neg_ℤ, ◌-ℤ◌, ◌*ℤ◌, ◌<ℤ◌}
use Rattle.std.specs.Int.{int_div_euclid, int_rem_euclid}
use Rattle.jiff_core.proofs.SignedLemmas.{signed_arith, int_div_euclid-parts, int_rem_euclid-parts}
use Rattle.expr_spec.specs.Values.{whole, quotient, rest}

pub quotient_negative : (a b : ℤ) → b <ℤ pos 0 → quotient a b ≡ whole (int_div_euclid (neg_ℤ a) (neg_ℤ b))
quotient_negative a (pos n) h = absurd (omega (arith, signed_arith))
quotient_negative a (negsuc n) h = refl

-- what the quotient by a number above zero leaves is the remainder
rest_parts : (a : ℤ) (n : ℕ) → a -ℤ (pos (suc n) *ℤ int_div_euclid a (pos (suc n))) ≡ int_rem_euclid a (pos (suc n))
rest_parts a n = omega (arith, signed_arith, int_div_euclid-parts a (suc n) (omega arith), int_rem_euclid-parts a (suc n) (omega arith))

-- and below zero the opposite of the opposite's
rest_parts-negative : (a : ℤ) (n : ℕ) → a -ℤ (negsuc n *ℤ int_div_euclid (neg_ℤ a) (pos (suc n))) ≡ neg_ℤ (int_rem_euclid (neg_ℤ a) (pos (suc n)))
rest_parts-negative a n = omega (arith, signed_arith, int_div_euclid-parts (neg_ℤ a) (suc n) (omega arith), int_rem_euclid-parts (neg_ℤ a) (suc n) (omega arith))

pub rest_positive : (a b : ℤ) → pos 0 <ℤ b → rest a b ≡ whole (int_rem_euclid a b)
rest_positive a (pos zero) h = absurd (omega (arith, signed_arith))
rest_positive a (pos (suc n)) h = ap whole (rest_parts a n)
rest_positive a (negsuc n) h = absurd (omega (arith, signed_arith))

pub rest_negative : (a b : ℤ) → b <ℤ pos 0 → rest a b ≡ whole (neg_ℤ (int_rem_euclid (neg_ℤ a) (neg_ℤ b)))
rest_negative a (pos n) h = absurd (omega (arith, signed_arith))
rest_negative a (negsuc n) h = ap whole (rest_parts-negative a n)
