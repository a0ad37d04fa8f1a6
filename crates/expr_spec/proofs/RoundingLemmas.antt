-- The quotient and the bucket of a number are rounded down.
use Rattle.std.proofs.Common.{ℕ, zero, suc, ◌<◌, arith, ℤ, pos, negsuc, neg_ℤ, ◌-ℤ◌}
use Rattle.std.specs.Int.{int_div_euclid, int_rem_euclid}
use Rattle.jiff_core.proofs.SignedLemmas.{signed_arith, int_div_euclid-parts, int_rem_euclid-parts}
use Rattle.expr_spec.specs.Rounding.{IsFloorQuotient, IsMultipleBelow}
use Rattle.expr_spec.specs.Values.{floor_div}

pub floor_div-rounds : (a b : ℤ) → IsFloorQuotient a b (floor_div a b)
floor_div-rounds a (pos zero) = tt
floor_div-rounds a (pos (suc n)) =
    let q = int_div_euclid-parts a (suc n) (omega arith) in
    (omega (arith, signed_arith), omega (arith, signed_arith))
floor_div-rounds a (negsuc n) =
    let q = int_div_euclid-parts (neg_ℤ a) (suc n) (omega arith) in
    (omega (arith, signed_arith), omega (arith, signed_arith))

pub multiple_below : (a : ℤ) (n : ℕ) → 0 < n → IsMultipleBelow a (a -ℤ int_rem_euclid a (pos n)) n
multiple_below a n h =
    let q = int_div_euclid-parts a n h in
    let r = int_rem_euclid-parts a n h in
    record {
      times = int_div_euclid a (pos n);
      multiple = omega (arith, signed_arith);
      not_above = omega (arith, signed_arith);
      greatest = omega (arith, signed_arith);
    }
