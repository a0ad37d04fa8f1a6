-- The steps of Euclid's algorithm keep the greatest common divisor.
use Rattle.std.proofs.Common.{◌≡◌, ℕ, ◌+◌, ◌*◌, ◌/◌, ◌%◌, sym, ap, subst, arith}
use Prim.Native.Nat.{◌∣◌}
use native.Mathlib.Nat.{dvd_refl, dvd-zero, dvd-mod_iff, dvd-add_iff_right, dvd-mul_left_of_dvd}
use Rattle.std.proofs.lemmas.Nat.{div-add-mod'}
use Rattle.value_core.specs.Divisors.{IsGreatestDivisor}

pub IsGreatestDivisor-from_zero : (a b : ℕ) → b ≡ 0 → IsGreatestDivisor a b a
IsGreatestDivisor-from_zero a b e = record {
  first = dvd_refl a;
  second = subst (λ n. a ∣ n) (sym e) (dvd-zero a);
  shared = λ x k p q. p;
}

-- one step by a remainder
pub IsGreatestDivisor-from_mod : (a b g : ℕ) → IsGreatestDivisor b (a % b) g → IsGreatestDivisor a b g
IsGreatestDivisor-from_mod a b g h = record {
  first = (dvd-mod_iff g h.first).0 h.second;
  second = h.first;
  shared = λ x e p q.
      let parts : (a / b * b + a % b) * e ≡ a * e = ap (λ n. n * e) (div-add-mod' a b) in
      let split : a * e ≡ a / b * (b * e) + a % b * e = omega arith in
      h.shared x e q ((dvd-add_iff_right x (dvd-mul_left_of_dvd x q (a / b))).1 (subst (λ n. x ∣ n) split p));
}
