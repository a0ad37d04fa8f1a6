-- The lowest form of a ratio is a fraction in its lowest terms, and no farther from 0.
use Rattle.std.proofs.Common.{◌≡◌, ℕ, zero, suc, ◌+◌, ◌*◌, ◌/◌, ◌%◌, ◌^◌, ◌<◌, ◌≤◌, ◌≢◌, Bool, true, false, ◌==◌, ℤ, pos, negsuc, neg_ℤ, ◌*ℤ◌, ◌≤ℤ◌, unsigned_abs, refl, sym, ap, ◌∙◌, arith}
use Rattle.std.proofs.Math.Nat.{mul-le-mul_right, mul-le-mul_left}
use Rattle.std.proofs.lemmas.Nat.{div-add-mod', mod-mul-add}
use Rattle.std.proofs.lemmas.Bool.{cases_lt}
use Rattle.std.proofs.lemmas.Int.{ints, unsigned_abs-mul}
use borrow.Author.Tests.{eqb-true, eqb-false}
use mathlib.Core.Logic.{⊎_elim}
use Rattle.value_core.specs.Reduced.{IsReduced, IsInReach}
use Rattle.agg_core.specs.Ratios.{denominator_from, lowest_denominator, with_sign_of, lowest_numerator}

multiple : (n c : ℕ) → 0 < c → (n * c) % c ≡ 0
multiple n c h = ap (λ z. z % c) plain ∙ mod-mul-add n c 0 h
  where
    plain : n * c ≡ n * c + 0
    plain = omega arith

from_step : (n c more d : ℕ) (b : Bool) → ((n * d) % c == 0) ≡ b → 0 < c → d ≤ c → c < d + suc more
    → ((suc d ≤ c) → (n * denominator_from n c more (suc d)) % c ≡ 0)
    → (n * denominator_from n c (suc more) d) % c ≡ 0
unfolding denominator_from
from_step n c more d true is p q r later = rw is (eqb-true _ _ is)
from_step n c more d false is p q r later =
    let not_c : d ≢ c = λ same. eqb-false _ _ is (ap (λ z. (n * z) % c) same ∙ multiple n c p) in
    rw is (later (omega arith))

from_whole : (n c more d : ℕ) → 0 < c → d ≤ c → c < d + more → (n * denominator_from n c more d) % c ≡ 0
from_whole n c zero d p q r = absurd (omega arith)
from_whole n c (suc more) d p q r =
    from_step n c more d ((n * d) % c == 0) refl p q r (λ s. from_whole n c more (suc d) p s (omega arith))

least_step : (n c more d e : ℕ) (b : Bool) → ((n * d) % c == 0) ≡ b → d ≤ e → (n * e) % c ≡ 0
    → ((suc d ≤ e) → denominator_from n c more (suc d) ≤ e) → denominator_from n c (suc more) d ≤ e
unfolding denominator_from
least_step n c more d e true is q h later = rw is q
least_step n c more d e false is q h later =
    let not_e : d ≢ e = λ same. eqb-false _ _ is (ap (λ z. (n * z) % c) same ∙ h) in
    rw is (later (omega arith))

from_least : (n c more d e : ℕ) → d ≤ e → (n * e) % c ≡ 0 → denominator_from n c more d ≤ e
unfolding denominator_from
from_least n c zero d e q h = q
from_least n c (suc more) d e q h = least_step n c more d e ((n * d) % c == 0) refl q h (λ s. from_least n c more (suc d) e s h)

start_step : (n c more d : ℕ) (b : Bool) → ((n * d) % c == 0) ≡ b → suc d ≤ denominator_from n c more (suc d) → d ≤ denominator_from n c (suc more) d
unfolding denominator_from
start_step n c more d true is later = rw is (omega arith)
start_step n c more d false is later = rw is (omega arith)

from_start : (n c more d : ℕ) → d ≤ denominator_from n c more d
unfolding denominator_from
from_start n c zero d = omega arith
from_start n c (suc more) d = start_step n c more d ((n * d) % c == 0) refl (from_start n c more (suc d))

-- ---- the parts

denominator_positive : (n : ℤ) (c : ℕ) → 0 < lowest_denominator n c
denominator_positive n c = let h = from_start (unsigned_abs n) c c 1 in omega arith

denominator_within : (n : ℤ) (c : ℕ) → 0 < c → lowest_denominator n c ≤ c
denominator_within n c p = from_least (unsigned_abs n) c c 1 c (omega arith) (multiple (unsigned_abs n) c p)

size_whole : (n : ℤ) (c : ℕ) → 0 < c → unsigned_abs n * lowest_denominator n c / c * c ≡ unsigned_abs n * lowest_denominator n c
size_whole n c p =
    let whole = div-add-mod' (unsigned_abs n * lowest_denominator n c) c in
    let none = from_whole (unsigned_abs n) c c 1 p (omega arith) (omega arith) in
    omega arith

size_within : (n : ℤ) (c : ℕ) → 0 < c → unsigned_abs n * lowest_denominator n c / c ≤ unsigned_abs n
size_within n c p =
    ⊎_elim
    (λ l. let above : (unsigned_abs n + 1) * c ≤ (unsigned_abs n * lowest_denominator n c / c) * c = mul-le-mul_right c (omega arith) in
    let below : unsigned_abs n * lowest_denominator n c ≤ unsigned_abs n * c = mul-le-mul_left (unsigned_abs n) (denominator_within n c p) in
    let whole = size_whole n c p in
    absurd (omega arith))
    (λ l. l)
    (cases_lt (unsigned_abs n) (unsigned_abs n * lowest_denominator n c / c))

neg_times : (k c : ℕ) → neg_ℤ (pos k) *ℤ pos c ≡ neg_ℤ (pos (k * c))
neg_times zero c = ap pos (omega arith) ∙ ap (λ z. neg_ℤ (pos z)) none
  where
    none : 0 ≡ 0 * c
    none = omega arith
neg_times (suc k) c = refl

signed_times : (n : ℤ) (k c d : ℕ) → k * c ≡ unsigned_abs n * d → with_sign_of n k *ℤ pos c ≡ n *ℤ pos d
signed_times (pos n) k c d e = ap pos e
signed_times (negsuc n) k c d e = neg_times k c ∙ ap (λ z. neg_ℤ (pos z)) e

least_by_size : (k : ℕ) (e : ℤ) → pos 1 ≤ℤ e → (0 < unsigned_abs e → k ≤ unsigned_abs e) → pos k ≤ℤ e
least_by_size k (pos e) p h =
    let some : 0 < e = omega (arith, ints) in
    let least : k ≤ e = h some in
    omega (arith, ints)
least_by_size k (negsuc e) p h = absurd p.le

times_whole : (m c e b : ℕ) → 0 < c → b * c ≡ m * e → (m * e) % c ≡ 0
times_whole m c e b p h = ap (λ z. z % c) (sym h) ∙ multiple b c p

-- the lowest form of n over c is n over c, in its lowest terms
pub lowest-IsReduced : (n : ℤ) (c : ℕ) → 0 < c → IsReduced n (pos c) (lowest_numerator n c) (pos (lowest_denominator n c))
lowest-IsReduced n c p = record {
  positive = let some = denominator_positive n c in omega (arith, ints);
  equal = signed_times n (unsigned_abs n * lowest_denominator n c / c) c (lowest_denominator n c) (size_whole n c p);
  least = λ b e at_least same.
      let sizes : unsigned_abs b * c ≡ unsigned_abs n * unsigned_abs e = sym (unsigned_abs-mul b (pos c)) ∙ ap unsigned_abs same ∙ unsigned_abs-mul n e in
      least_by_size (lowest_denominator n c) e at_least (λ q. from_least (unsigned_abs n) c c 1 (unsigned_abs e) q (times_whole (unsigned_abs n) c (unsigned_abs e) (unsigned_abs b) p sizes));
}

sign_in_reach : (n : ℤ) (k : ℕ) → k ≤ 2 ^ 100 → IsInReach (with_sign_of n k)
sign_in_reach (pos n) k h = (omega (arith, ints), omega (arith, ints))
sign_in_reach (negsuc n) k h = (omega (arith, ints), omega (arith, ints))

pub lowest-numerator_in_reach : (n : ℤ) (c : ℕ) → 0 < c → unsigned_abs n ≤ 2 ^ 100 → IsInReach (lowest_numerator n c)
lowest-numerator_in_reach n c p h =
    let within = size_within n c p in
    sign_in_reach n (unsigned_abs n * lowest_denominator n c / c) (omega arith)

pub lowest-denominator_in_reach : (n : ℤ) (c : ℕ) → 0 < c → c ≤ 2 ^ 100 → IsInReach (pos (lowest_denominator n c))
lowest-denominator_in_reach n c p h =
    let within = denominator_within n c p in
    (omega (arith, ints), omega (arith, ints))
