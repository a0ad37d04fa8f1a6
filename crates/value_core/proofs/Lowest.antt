-- A fraction divided through by the greatest common divisor is in its lowest terms.
use Rattle.std.proofs.Common.{◌≡◌, ℕ, zero, suc, ◌+◌, ◌*◌, ◌/◌, ◌^◌, ◌<◌, ◌≤◌, sym, ap, ◌∙◌, subst, refl, arith, ℤ, pos, negsuc, ◌*ℤ◌, ◌≤ℤ◌, neg_ℤ, unsigned_abs, int_div, FitsSigned, to_z, of_z}
use Prim.Native.Nat.{◌∣◌}
use native.Mathlib.Nat.{dvd-mul_left, dvd-mul_right, le_of_dvd, pos_of_dvd_of_pos, mod-eq-zero_of_dvd, div-le_self}
use Rattle.std.proofs.Math.Nat.{mul-le-mul_right}
use Rattle.std.proofs.lemmas.Nat.{div-add-mod'}
use Rattle.std.proofs.lemmas.Bool.{cases_lt}
use mathlib.Core.Logic.{⊎_elim}
use Rattle.std.proofs.lemmas.Int.{ints, unsigned_abs-mul, to_z-of_z, quot_is, quot_fits}
use Rattle.std.specs.Int.{w128}
use Rattle.value_core.specs.Divisors.{IsGreatestDivisor}
use Rattle.value_core.specs.Reduced.{IsReduced, IsInReach}

exact_quotient : (g n : ℕ) → g ∣ n → n / g * g ≡ n
exact_quotient g n h =
    let whole = div-add-mod' n g in
    let none = mod-eq-zero_of_dvd g h in
    omega arith

pub divisor_positive : (n c g : ℕ) → 0 < c → IsGreatestDivisor n c g → 0 < g
divisor_positive n c g p h = pos_of_dvd_of_pos h.second p

-- a quotient that a multiple reaches
quotient_within : (k g e c : ℕ) → 0 < g → k * g ≡ c → c ≤ g * e → k ≤ e
quotient_within k g e c p q h =
    ⊎_elim
    (λ l. let above : (e + 1) * g ≤ k * g = mul-le-mul_right g (omega arith) in absurd (omega arith))
    (λ l. l)
    (cases_lt e k)

-- no lesser denominator does
lowest_denominator : (n c g b e : ℕ) → 0 < c → 0 < e → IsGreatestDivisor n c g → b * c ≡ n * e → c / g ≤ e
lowest_denominator n c g b e p q h same =
    let some = divisor_positive n c g p h in
    let divides : c ∣ g * e = h.shared c e (subst (λ z. c ∣ z) same (dvd-mul_left c b)) (dvd-mul_right c e) in
    let positive : 0 < g * e =
    let times : 1 * g ≤ e * g = mul-le-mul_right g q in
    omega arith in
    quotient_within (c / g) g e c some (exact_quotient g c h.second) (le_of_dvd positive divides)

neg_times : (k c : ℕ) → neg_ℤ (pos k) *ℤ pos c ≡ neg_ℤ (pos (k * c))
neg_times zero c = ap pos (omega arith) ∙ ap (λ z. neg_ℤ (pos z)) none
  where
    none : 0 ≡ 0 * c
    none = omega arith
neg_times (suc k) c = refl

same_cross : (n c g : ℕ) → IsGreatestDivisor n c g → n / g * c ≡ n * (c / g)
same_cross n c g h =
    let first = exact_quotient g n h.first in
    let second = exact_quotient g c h.second in
    let left : n / g * (c / g * g) ≡ n / g * c = ap (λ z. n / g * z) second in
    let right : (n / g * g) * (c / g) ≡ n * (c / g) = ap (λ z. z * (c / g)) first in
    omega arith

same_ratio : (n : ℤ) (c g : ℕ) → IsGreatestDivisor (unsigned_abs n) c g → int_div n (pos g) *ℤ pos c ≡ n *ℤ pos (c / g)
same_ratio (pos n) c g h = ap pos (same_cross n c g h)
same_ratio (negsuc n) c g h = neg_times (suc n / g) c ∙ ap (λ z. neg_ℤ (pos z)) (same_cross (suc n) c g h)

quotient_positive : (k g c : ℕ) → 0 < c → k * g ≡ c → 0 < k
quotient_positive zero g c p e = absurd (omega arith)
quotient_positive (suc k) g c p e = omega arith

least_by_size : (k : ℕ) (e : ℤ) → pos 1 ≤ℤ e → (0 < unsigned_abs e → k ≤ unsigned_abs e) → pos k ≤ℤ e
least_by_size k (pos e) p h =
    let some : 0 < e = omega (arith, ints) in
    let least : k ≤ e = h some in
    omega (arith, ints)
least_by_size k (negsuc e) p h = absurd p.le

pub reduced_by_divisor : (n c : ℤ) (g : ℕ) → pos 1 ≤ℤ c → IsGreatestDivisor (unsigned_abs n) (unsigned_abs c) g → IsReduced n c (int_div n (pos g)) (int_div c (pos g))
reduced_by_divisor n (pos c) g p h =
    let some : 0 < c = omega (arith, ints) in
    record {
      positive =
          let whole = exact_quotient g c h.second in
          let apart = quotient_positive (c / g) g c some whole in
          omega (arith, ints);
      equal = same_ratio n c g h;
      least = λ b e at_least same.
          let sizes : unsigned_abs b * c ≡ unsigned_abs n * unsigned_abs e = sym (unsigned_abs-mul b (pos c)) ∙ ap unsigned_abs same ∙ unsigned_abs-mul n e in
          least_by_size (c / g) e at_least (λ q. lowest_denominator (unsigned_abs n) c g (unsigned_abs b) (unsigned_abs e) some q h sizes);
    }
reduced_by_divisor n (negsuc c) g p h = absurd p.le

pub quotient_in_reach : (n : ℤ) (g : ℕ) → IsInReach n → IsInReach (int_div n (pos g))
quotient_in_reach (pos n) g h =
    let less = div-le_self n g in
    (omega (arith, ints), omega (arith, ints))
quotient_in_reach (negsuc n) g h =
    let less = div-le_self (suc n) g in
    (omega (arith, ints), omega (arith, ints))

-- the divisor isn't 0, and is no greater than the denominator
pub divisor_in_reach : (n c : ℤ) (g : ℕ) → pos 1 ≤ℤ c → IsInReach c → IsGreatestDivisor (unsigned_abs n) (unsigned_abs c) g → (0 < g) × (g ≤ 2 ^ 100)
divisor_in_reach n (pos c) g p h d =
    let some : 0 < c = omega (arith, ints) in
    let within : g ≤ c = le_of_dvd some d.second in
    (divisor_positive (unsigned_abs n) c g some d, omega (arith, ints))
divisor_in_reach n (negsuc c) g p h d = absurd p.le

-- as the code reads the two numbers
pub quotient_fits : (a : ℤ) (g : ℕ) → FitsSigned w128 a → 0 < g → FitsSigned w128 (pos g) → FitsSigned w128 (int_div (to_z w128 (of_z w128 a)) (to_z w128 g))
quotient_fits a g f p h =
    subst (λ z. FitsSigned w128 (int_div z (to_z w128 g))) (sym (to_z-of_z w128 a f))
    (subst (λ z. FitsSigned w128 (int_div a z)) (sym (to_z-of_z w128 (pos g) h)) (quot_fits w128 a (pos g) f (omega (arith, ints))))

pub quotient_is : (a : ℤ) (g : ℕ) → FitsSigned w128 a → 0 < g → FitsSigned w128 (pos g) → to_z w128 (of_z w128 (int_div (to_z w128 (of_z w128 a)) (to_z w128 g))) ≡ int_div a (pos g)
quotient_is a g f p h = quot_is w128 a (pos g) f h (quot_fits w128 a (pos g) f (omega (arith, ints)))
