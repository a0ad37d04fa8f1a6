-- Patterns, and the digits that stand where a pattern has them.
use Rattle.std.proofs.Common.{◌≡◌, ℕ, zero, suc, ◌+◌, ◌-◌, ◌*◌, ◌^◌, ◌<◌, ◌≤◌, ◌≢◌, Bool, true, false, ◌&&◌, List, [], ◌∷◌, length, take, drop, get_or, replicate, refl, ◌∙◌, arith}
use Rattle.std.proofs.lemmas.Bool.{and_parts, and_right, false≢true}
use Rattle.std.proofs.lemmas.Bool.Decides.{nat_tests}
use Rattle.std.proofs.lemmas.List.{drop_all, length-take}
use Rattle.std.proofs.lemmas.Int.Digits.{digits_value-lt, digits_value_more}
use Rattle.std.proofs.lemmas.Str.Parse.{digit_at}
use Rattle.std.proofs.Math.Nat.{pow-le-pow_right}
use Rattle.std.specs.Int.{IsInRange}
use Rattle.std.specs.Char.{digit_value, is_ascii_digit}
use Rattle.std.specs.Str.Parse.{AllDigits, digits_value}
use Rattle.cal_units.specs.Digits.{fits_byte, fits}

-- a text that fits has the pattern's length
pub length-fits : (p t : List ℕ) → fits p t ≡ true → length t ≡ length p
unfolding fits
length-fits [] [] h = refl
length-fits [] (c ∷ t) h = absurd (false≢true h)
length-fits (x ∷ p) [] h = absurd (false≢true h)
length-fits (x ∷ p) (c ∷ t) h = omega (arith, length-fits p t (and_parts (fits_byte x c) (fits p t) h).1)

-- and one of another length does not fit
pub fits-apart : (p t : List ℕ) → length p ≢ length t → fits p t ≡ false
unfolding fits
fits-apart [] [] h = absurd (h refl)
fits-apart [] (c ∷ t) h = refl
fits-apart (x ∷ p) [] h = refl
fits-apart (x ∷ p) (c ∷ t) h = and_right (fits_byte x c) (fits p t) (fits-apart p t (λ e. h (omega arith)))

-- what is left of a text that fits is what is left of the pattern
pub fits-drop : (p t : List ℕ) (n : ℕ) → fits p t ≡ true → fits (drop n p) (drop n t) ≡ true
unfolding fits
fits-drop p t zero h = h
fits-drop [] [] (suc n) h = h
fits-drop [] (c ∷ t) (suc n) h = absurd (false≢true h)
fits-drop (x ∷ p) [] (suc n) h = absurd (false≢true h)
fits-drop (x ∷ p) (c ∷ t) (suc n) h = fits-drop p t n (and_parts (fits_byte x c) (fits p t) h).1

-- one byte more of a pattern and a text
pub fits-more : (p t : List ℕ) (i : ℕ) → i < length p → i < length t → fits (drop i p) (drop i t) ≡ (fits_byte (get_or p i 0) (get_or t i 0) && fits (drop (i + 1) p) (drop (i + 1) t))
unfolding fits
fits-more [] t i h k = absurd (omega arith)
fits-more (x ∷ p) [] i h k = absurd (omega arith)
fits-more (x ∷ p) (c ∷ t) zero h k = refl
fits-more (x ∷ p) (c ∷ t) (suc i) h k = let next : suc i + 1 ≡ suc (i + 1) = omega arith in rw next (fits-more p t i (omega arith) (omega arith))

pub digit_is : (c : ℕ) → is_ascii_digit c ≡ true → digit_value c < 10
digit_is c h = grind (arith, nat_tests)

fits_digit : (x c : ℕ) → x ≡ 100 → fits_byte x c ≡ true → digit_value c < 10
fits_digit x c e h = digit_is c (rw e at h)

-- where a pattern begins with n digits, so does a text that fits
digits_front : (n : ℕ) (p t : List ℕ) → fits p t ≡ true → take n p ≡ replicate n 100 → AllDigits 10 (take n t)
unfolding fits
digits_front zero p t h e = tt
digits_front (suc n) [] t h e = absurd (cc)
digits_front (suc n) (x ∷ p) [] h e = absurd (false≢true h)
digits_front (suc n) (x ∷ p) (c ∷ t) h e =
    let parts = and_parts (fits_byte x c) (fits p t) h in
    (fits_digit x c (cc) parts.0, digits_front n p t parts.1 (cc))

-- the same from a place on
pub digits_at : (p t : List ℕ) (from n : ℕ) → fits p t ≡ true → take n (drop from p) ≡ replicate n 100 → AllDigits 10 (take n (drop from t))
digits_at p t from n h e = digits_front n (drop from p) (drop from t) (fits-drop p t from h) e

-- a loop's step over a pattern and a text of its length
pub fits-step : (p t : List ℕ) (i : ℕ) (b : Bool) → length p ≡ length t → i < length t → fits p t ≡ fits (drop i p) (drop i t) → b ≡ fits_byte (get_or p i 0) (get_or t i 0) → fits p t ≡ (b && fits (drop (i + 1) p) (drop (i + 1) t))
fits-step p t i b same h so_far e = rw e (so_far ∙ fits-more p t i (omega arith) h)

-- at the end nothing is left
pub fits-end : (p t : List ℕ) (i : ℕ) → length p ≡ length t → length t ≤ i → fits p t ≡ fits (drop i p) (drop i t) → fits p t ≡ true
unfolding fits
fits-end p t i same h so_far = rw (drop_all i p (omega arith), drop_all i t h) at so_far

-- the value of a decimal digit
pub digit_value_is : (c : ℕ) → IsInRange 48 57 c → digit_value c ≡ c - 48
digit_value_is c h = grind (arith, nat_tests)

all_digits-take : (ds : List ℕ) (n : ℕ) → AllDigits 10 ds → AllDigits 10 (take n ds)
all_digits-take ds zero h = tt
all_digits-take [] (suc n) h = tt
all_digits-take (c ∷ ds) (suc n) h = (h.0, all_digits-take ds n h.1)

-- a loop's step over at most nine digits
pub record IsNumberStep (ds : List ℕ) (i n : ℕ) : Type 0 where
  pub small : n < 100_000_000
  pub digit : IsInRange 48 57 (get_or ds i 0)
  pub next : digits_value 10 (take (i + 1) ds) ≡ n * 10 + (get_or ds i 0 - 48)

pub number_step : (ds : List ℕ) (i n : ℕ) → AllDigits 10 ds → length ds ≤ 9 → i < length ds → n ≡ digits_value 10 (take i ds) → IsNumberStep ds i n
number_step ds i n h short at e =
    let low = digits_value-lt 10 (take i ds) (all_digits-take ds i h) in
    let few : length (take i ds) ≤ 8 = omega (arith, length-take i ds) in
    let top : 10 ^ length (take i ds) ≤ 10 ^ 8 = pow-le-pow_right (omega arith) few in
    let digit = digit_at ds i h at in
    record {
      small = omega arith;
      digit = digit;
      next = omega (arith, digits_value_more 10 ds i at, digit_value_is _ digit);
    }
