-- The fraction of a ratio is the one that is its lowest form.
use Rattle.std.proofs.Common.{◌≡◌, ℕ, ◌^◌, ◌<◌, ◌≤◌, List, length, Bool, true, false, nat_lt, nat_le, Some, None, ℤ, pos, unsigned_abs, negsuc, refl, sym, ap, ◌∙◌, arith}
use Rattle.std.specs.Option.{option_map}
use Rattle.std.proofs.lemmas.Bool.{and_from, lt-ltb, le-leb}
use Rattle.std.proofs.lemmas.Int.{ints}
use Rattle.value_core.specs.Reduced.{IsReduced, IsInReach}
use Rattle.value_core.specs.FractionLaws.{Fraction-unique}
use Rattle.value_core.specs.declared.fraction.Fraction.{Fraction}
use Rattle.value_core.specs.declared.value.Value.TheVariants as value
use Rattle.cell_core.specs.Limits.{max_rows}
use Rattle.agg_core.specs.Aggregates.{sum_of, mean}
use Rattle.agg_core.specs.Fractions.{is_ratio, IsRatio-from_test, at_least_one, ratio, ratio_where, fraction_over}
use Rattle.agg_core.specs.RatioLaws.{lowest-IsReduced}

size_in_reach : (n : ℤ) → IsInReach n → unsigned_abs n ≤ 2 ^ 100
size_in_reach (pos n) within = let high = within.1 in omega (arith, ints)
size_in_reach (negsuc n) within = let low = within.0 in omega (arith, ints)

is_ratio-from : (n : ℤ) (c : ℕ) → 0 < c → IsInReach n → c ≤ 2 ^ 100 → is_ratio n c ≡ true
is_ratio-from n c some within few =
    and_from (nat_lt 0 c) _ (lt-ltb 0 c some) (and_from (nat_le (unsigned_abs n) (2 ^ 100)) (nat_le c (2 ^ 100)) (le-leb (unsigned_abs n) (2 ^ 100) (size_in_reach n within)) (le-leb c (2 ^ 100) few))

where-reduced : (n : ℤ) (c : ℕ) (b : Bool) (is : is_ratio n c ≡ b) → b ≡ true → 0 < c → (f : Fraction) → IsReduced n (pos c) f.n f.d → ratio_where n c b is ≡ Some f
unfolding ratio ratio_where
where-reduced n c true is holds some f reduced =
    ap Some (Fraction-unique n (pos c) (ratio n c (IsRatio-from_test n c is)) f (at_least_one c some) (lowest-IsReduced n c some) reduced)
where-reduced n c false is holds some f reduced = absurd (cc)

-- a fraction that is n over c in its lowest terms is the one that is meant
pub fraction_over-reduced : (n : ℤ) (c : ℕ) → 0 < c → IsInReach n → c ≤ 2 ^ 100 → (f : Fraction) → IsReduced n (pos c) f.n f.d → fraction_over n c ≡ Some f
unfolding fraction_over
fraction_over-reduced n c some within few f reduced =
    where-reduced n c (is_ratio n c) refl (is_ratio-from n c some within few) some f reduced

where-some : (n : ℤ) (c : ℕ) (b : Bool) (is : is_ratio n c ≡ b) → b ≡ true → 0 < c → (f : Fraction) × (ratio_where n c b is ≡ Some f) × IsReduced n (pos c) f.n f.d
unfolding ratio ratio_where
where-some n c true is holds some = (ratio n c (IsRatio-from_test n c is), refl, lowest-IsReduced n c some)
where-some n c false is holds some = absurd (cc)

pub fraction_over-some : (n : ℤ) (c : ℕ) → 0 < c → IsInReach n → c ≤ 2 ^ 100 → (f : Fraction) × (fraction_over n c ≡ Some f) × IsReduced n (pos c) f.n f.d
unfolding fraction_over
fraction_over-some n c some within few = where-some n c (is_ratio n c) refl (is_ratio-from n c some within few) some

where-none : (n : ℤ) (c : ℕ) (b : Bool) (is : is_ratio n c ≡ b) → c ≡ 0 → ratio_where n c b is ≡ None
unfolding ratio_where
where-none n c true is none = let some = (IsRatio-from_test n c is).positive in absurd (omega arith)
where-none n c false is none = refl

pub fraction_over-none : (n : ℤ) (c : ℕ) → c ≡ 0 → fraction_over n c ≡ None
unfolding fraction_over
fraction_over-none n c none = where-none n c (is_ratio n c) refl none

pub mean-none : (ns : List ℤ) (count : ℕ) → count ≡ 0 → count ≡ length ns → None ≡ mean ns
mean-none ns count none is = sym (ap (option_map value.Fraction) (fraction_over-none (sum_of ns) (length ns) (sym is ∙ none)))

pub mean-some : (ns : List ℤ) (sum : ℤ) (count : ℕ) → 0 < count → count ≤ max_rows → IsInReach sum → sum ≡ sum_of ns → count ≡ length ns
    → (f : Fraction) → IsReduced sum (pos count) f.n f.d → Some (value.Fraction f) ≡ mean ns
mean-some ns sum count some few within sum_is count_is f reduced =
    let found : fraction_over sum count ≡ Some f = fraction_over-reduced sum count some within (omega arith) f reduced in
    let same : fraction_over (sum_of ns) (length ns) ≡ Some f = rw (← sum_is, ← count_is) found in
    sym (ap (option_map value.Fraction) same)
