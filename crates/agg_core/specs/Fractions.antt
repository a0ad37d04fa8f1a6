-- A whole number over a count, as a fraction in its lowest terms.
use Rattle.std.specs.Prelude.{◌≡◌, ℕ, ◌^◌, ◌<◌, ◌≤◌, nat_lt, nat_le, Bool, true, false, ◌&&◌, Option, Some, None, ℤ, pos, ◌≤ℤ◌, unsigned_abs, refl}
use Rattle.std.proofs.Common.{arith}
use Rattle.std.proofs.lemmas.Bool.{and_parts, ltb-true, leb-true}
use Rattle.std.proofs.lemmas.Int.{ints}
use Rattle.value_core.specs.FractionLaws.{IsReduced-itself}
use Rattle.value_core.specs.declared.fraction.Fraction.{Fraction}
use Rattle.agg_core.specs.Ratios.{lowest_denominator, lowest_numerator}
use Rattle.agg_core.specs.RatioLaws.{lowest-IsReduced, lowest-numerator_in_reach, lowest-denominator_in_reach}

-- whether there is a fraction of n over c: c is positive, and neither is more than 2 ^ 100 away from 0
abbrev pub is_ratio : ℤ → ℕ → Bool
is_ratio n c = nat_lt 0 c && (nat_le (unsigned_abs n) (2 ^ 100) && nat_le c (2 ^ 100))

-- the same as facts
pub record IsRatio (n : ℤ) (c : ℕ) : Type 0 where
  pub positive : 0 < c
  pub n_in_reach : unsigned_abs n ≤ 2 ^ 100
  pub c_in_reach : c ≤ 2 ^ 100

pub IsRatio-from_test : (n : ℤ) (c : ℕ) → is_ratio n c ≡ true → IsRatio n c
IsRatio-from_test n c h =
    let first = and_parts (nat_lt 0 c) (nat_le (unsigned_abs n) (2 ^ 100) && nat_le c (2 ^ 100)) h in
    let second = and_parts (nat_le (unsigned_abs n) (2 ^ 100)) (nat_le c (2 ^ 100)) first.1 in
    record {
      positive = ltb-true 0 c first.0;
      n_in_reach = leb-true (unsigned_abs n) (2 ^ 100) second.0;
      c_in_reach = leb-true c (2 ^ 100) second.1;
    }

pub at_least_one : (c : ℕ) → 0 < c → pos 1 ≤ℤ pos c
at_least_one c h = omega (arith, ints)

-- the least positive denominator, and the numerator over it
unfoldable pub ratio : (n : ℤ) (c : ℕ) → IsRatio n c → Fraction
ratio n c is = record {
  n = lowest_numerator n c;
  d = pos (lowest_denominator n c);
  lowest = IsReduced-itself n (pos c) (lowest_numerator n c) (pos (lowest_denominator n c)) (at_least_one c is.positive) (lowest-IsReduced n c is.positive);
  n_in_reach = lowest-numerator_in_reach n c is.positive is.n_in_reach;
  d_in_reach = lowest-denominator_in_reach n c is.positive is.c_in_reach;
}

-- the fraction where the test holds
unfoldable pub ratio_where : (n : ℤ) (c : ℕ) (b : Bool) → is_ratio n c ≡ b → Option Fraction
ratio_where n c true h = Some (ratio n c (IsRatio-from_test n c h))
ratio_where n c false h = None

-- n over c in its lowest terms, where there is such a fraction
unfoldable pub fraction_over : ℤ → ℕ → Option Fraction
fraction_over n c = ratio_where n c (is_ratio n c) refl
