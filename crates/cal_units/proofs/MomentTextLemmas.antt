-- The parts of a moment's text.
use Rattle.std.proofs.Common.{◌≡◌, ℕ, ◌*◌, ◌<◌, inl, inr, true, false, nat_eq, List, [], ◌∷◌, length, take, drop, Option, Some, None, option_map, option_and_then, slice_range, refl, sym, ap, arith, ℤ, pos, neg_ℤ, ◌-ℤ◌, ◌+ℤ◌, ◌*ℤ◌, codes}
use Rattle.std.proofs.lemmas.Bool.{cases_Bool}
use Rattle.std.proofs.lemmas.List.{length-take, length-drop}
use Rattle.std.proofs.lemmas.List.Sums.{take_while-cons}
use Rattle.std.specs.List.{starts_with, prefix_len}
use Rattle.std.specs.Char.{is_ascii_digit}
use Rattle.std.specs.Str.Parse.{AllDigits, digits_value}
use Rattle.cal_units.specs.Digits.{fits, number_in}
use Rattle.cal_units.proofs.DigitLemmas.{digit_is, fits-apart}
use Rattle.cal_units.specs.DateText.{date_of}
use Rattle.cal_units.specs.MomentText.{clock_millis, clock_of, offset_of, zone_of, tail_of, fraction_of, fraction_millis, instant_of}

pub clock_of-no_form : (t : List ℕ) → fits (codes "Tdd:dd:dd") t ≡ false → clock_of t ≡ None
unfolding clock_of
clock_of-no_form t form = rw form refl

pub clock_of-form : (t : List ℕ) → fits (codes "Tdd:dd:dd") t ≡ true → clock_of t ≡ clock_millis (number_in t 1 3) (number_in t 4 6) (number_in t 7 9)
unfolding clock_of
clock_of-form t form = rw form refl

pub zone_of-utc : (t : List ℕ) → fits (codes "Z") t ≡ true → zone_of t ≡ Some (pos 0)
unfolding zone_of
zone_of-utc t form = rw form refl

pub zone_of-ahead : (t : List ℕ) → fits (codes "Z") t ≡ false → fits (codes "+dd:dd") t ≡ true → zone_of t ≡ option_map (λ ms. pos ms) (offset_of t)
unfolding zone_of
zone_of-ahead t utc form = rw (utc, form) refl

pub zone_of-behind : (t : List ℕ) → fits (codes "Z") t ≡ false → fits (codes "+dd:dd") t ≡ false → fits (codes "-dd:dd") t ≡ true → zone_of t ≡ option_map (λ ms. neg_ℤ (pos ms)) (offset_of t)
unfolding zone_of
zone_of-behind t utc ahead form = rw (utc, ahead, form) refl

pub zone_of-none : (t : List ℕ) → fits (codes "Z") t ≡ false → fits (codes "+dd:dd") t ≡ false → fits (codes "-dd:dd") t ≡ false → zone_of t ≡ None
unfolding zone_of
zone_of-none t utc ahead behind = rw (utc, ahead, behind) refl

-- digits in front are digits
all_digits_front : (t : List ℕ) → AllDigits 10 (take (prefix_len is_ascii_digit t) t)
all_digits_front [] = tt
all_digits_front (c ∷ t) =
    elim (cases_Bool (is_ascii_digit c)) [
      | inl digit ↦ rw (take_while-cons is_ascii_digit c t, digit) (digit_is c digit, all_digits_front t)
      | inr other ↦ rw (take_while-cons is_ascii_digit c t, other) tt
    ]

pub front_digits : (t : List ℕ) (n : ℕ) → n ≡ prefix_len is_ascii_digit t → AllDigits 10 (take n t)
front_digits t n e = rw e (all_digits_front t)

-- a fraction by the count of its digits
pub fraction_millis-one : (ds : List ℕ) → length ds ≡ 1 → fraction_millis ds ≡ Some (digits_value 10 ds * 100)
fraction_millis-one (a ∷ []) one = ap Some (omega arith)
fraction_millis-one ds one = absurd (omega arith)

pub fraction_millis-two : (ds : List ℕ) → length ds ≡ 2 → fraction_millis ds ≡ Some (digits_value 10 ds * 10)
fraction_millis-two (a ∷ b ∷ []) two = ap Some (omega arith)
fraction_millis-two ds two = absurd (omega arith)

-- the two forms of a tail
pub tail_of-point : (t : List ℕ) → starts_with nat_eq t (codes ".") ≡ true → tail_of t ≡ fraction_of (drop 1 t)
unfolding tail_of
tail_of-point t point = rw point refl

pub tail_of-zone : (t : List ℕ) → starts_with nat_eq t (codes ".") ≡ false → tail_of t ≡ option_map (λ ahead. neg_ℤ ahead) (zone_of t)
unfolding tail_of
tail_of-zone t other = rw other refl

-- what follows a point, as far as it is read
pub fraction_of-none : (t : List ℕ) (n : ℕ) → n ≡ prefix_len is_ascii_digit t → None ≡ fraction_millis (take n t) → fraction_of t ≡ None
unfolding fraction_of
fraction_of-none t n e none = rw (← e, ← none) refl

pub fraction_of-some : (t : List ℕ) (n ms : ℕ) → n ≡ prefix_len is_ascii_digit t → Some ms ≡ fraction_millis (take n t) → fraction_of t ≡ option_map (λ ahead. pos ms -ℤ ahead) (zone_of (drop n t))
unfolding fraction_of
fraction_of-some t n ms e some = rw (← e, ← some) refl

no_clock : (t : List ℕ) (date : Option ℤ) → None ≡ clock_of (slice_range t 10 19) → option_and_then (λ day. option_and_then (λ clock. option_map (λ rest. day *ℤ pos 86_400_000 +ℤ pos clock +ℤ rest) (tail_of (drop 19 t))) (clock_of (slice_range t 10 19))) date ≡ None
no_clock t None none = refl
no_clock t (Some day) none = rw (← none) refl

-- a moment, as far as its text is read
pub instant_of-no_date : (t : List ℕ) → None ≡ date_of (take 10 t) → instant_of t ≡ None
unfolding instant_of
instant_of-no_date t none = rw (← none) refl

pub instant_of-no_clock : (t : List ℕ) → None ≡ clock_of (slice_range t 10 19) → instant_of t ≡ None
unfolding instant_of
instant_of-no_clock t none = no_clock t (date_of (take 10 t)) none

pub instant_of-some : (t : List ℕ) (day : ℤ) (clock : ℕ) → Some day ≡ date_of (take 10 t) → Some clock ≡ clock_of (slice_range t 10 19) → instant_of t ≡ option_map (λ rest. day *ℤ pos 86_400_000 +ℤ pos clock +ℤ rest) (tail_of (drop 19 t))
unfolding instant_of
instant_of-some t day clock date time = rw (← date, ← time) refl

pub instant_of-short : (t : List ℕ) → length t < 19 → instant_of t ≡ None
instant_of-short t h =
    let few : length (slice_range t 10 19) < 9 = omega (arith, length-take 9 (drop 10 t), length-drop 10 t) in
    instant_of-no_clock t (sym (clock_of-no_form (slice_range t 10 19) (fits-apart (codes "Tdd:dd:dd") (slice_range t 10 19) (λ e. absurd (omega arith)))))
