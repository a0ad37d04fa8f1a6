-- Digits as `parse` reads them.
use Rattle.std.proofs.Common.{◌≡◌, ℕ, ℤ, pos, negsuc, List, [], ◌∷◌, length, drop, ◌<◌, eqb, Bool, true, false, not, cond, Ok, Err, refl, sym, ap, subst, arith, w64, FitsSigned, int_le, neg_ℤ}
use Rattle.std.proofs.lemmas.Bool.{and_parts, eqb-true}
use Rattle.std.proofs.lemmas.Bool.Decides.{nat_tests}
use Rattle.std.proofs.lemmas.Int.{ints}
use Rattle.std.specs.Char.{is_ascii_digit}
use Rattle.std.specs.List.{list_all}
use Rattle.std.specs.Str.Parse.{AllDigits, IsNumeral, without_leading_plus, without_leading_sign, starts_with_minus, signed_digits_value}
use Rattle.cal_units.specs.Calendar.{is_moment}
use Rattle.cal_units.proofs.DigitLemmas.{digit_is}
use Rattle.cell_core.specs.Limits.{is_integer}
use Rattle.cell_core.specs.declared.cell.Cell.{Cell}
use Rattle.cell_core.specs.declared.cell.Cell.TheVariants as cell
use Rattle.row_batch.specs.declared.refused.RowCause.TheVariants as cause
use Rattle.csv_rows.specs.Reading.{is_digits, is_number, integer_field, millis_field}

all_digits : (s : List ℕ) → list_all is_ascii_digit s ≡ true → AllDigits 10 s
all_digits [] h = tt
all_digits (c ∷ s) h = let parts = and_parts (is_ascii_digit c) (list_all is_ascii_digit s) h in (digit_is c parts.0, all_digits s parts.1)

some_byte : (s : List ℕ) → not (eqb (length s) 0) ≡ true → 0 < length s
some_byte [] h = cc
some_byte (c ∷ s) h = omega arith

numeral : (s : List ℕ) → is_digits s ≡ true → IsNumeral 10 s
numeral s h =
    let parts = and_parts (not (eqb (length s) 0)) (list_all is_ascii_digit s) h in (some_byte s parts.0, all_digits s parts.1)

not_plus : (c : ℕ) (b : Bool) → eqb c 43 ≡ b → is_ascii_digit c ≡ true → b ≡ false
not_plus c true e h = let digit : is_ascii_digit 43 ≡ true = subst (λ x. is_ascii_digit x ≡ true) (eqb-true c 43 e) h in cc
not_plus c false e h = refl

no_plus : (s : List ℕ) → is_digits s ≡ true → without_leading_plus s ≡ s
no_plus [] h = cc
no_plus (c ∷ s) h =
    let whole = and_parts (not (eqb (length (c ∷ s)) 0)) (list_all is_ascii_digit (c ∷ s)) h in
    let parts = and_parts (is_ascii_digit c) (list_all is_ascii_digit s) whole.1 in
    ap (λ b. drop (cond b 1 0) (c ∷ s)) (not_plus c (eqb c 43) refl parts.0)

by_minus : (b : Bool) (s : List ℕ) → cond b (is_digits (drop 1 s)) (is_digits s) ≡ true → IsNumeral 10 (cond b (drop 1 s) (without_leading_plus s))
by_minus true s h = numeral (drop 1 s) h
by_minus false s h = subst (IsNumeral 10) (sym (no_plus s h)) (numeral s h)

is_numeral : (s : List ℕ) → is_number s ≡ true → IsNumeral 10 (without_leading_sign s)
is_numeral s h = by_minus (starts_with_minus s) s h

-- a cell's number has 64 bits
integer-fits : (z : ℤ) → is_integer z ≡ true → FitsSigned w64 z
integer-fits (pos n) h = grind (arith, ints, nat_tests)
integer-fits (negsuc n) h = grind (arith, ints, nat_tests)

moment-fits : (ms : ℤ) → is_moment ms ≡ true → FitsSigned w64 ms
moment-fits ms h = let parts = and_parts (int_le (neg_ℤ (pos 62_135_596_800_000)) ms) (int_le ms (pos 253_402_300_799_999)) h in grind (arith, ints, nat_tests, parts.0, parts.1)

abbrev pub Unread : List ℕ → Type 0
Unread s = IsNumeral 10 (without_leading_sign s) × FitsSigned w64 (signed_digits_value 10 s) → ⊥

range_by : (b : Bool) (x : Cell) → (b ≡ true → ⊥) → cond b (Ok x) (Err cause.Range) ≡ Err cause.Range
range_by true x never = absurd (never refl)
range_by false x never = refl

-- digits that are no number of 64 bits are out of range
pub integer_field-range : (s : List ℕ) → is_number s ≡ true → Unread s → integer_field s ≡ Err cause.Range
integer_field-range s h unread = range_by (is_integer (signed_digits_value 10 s)) (cell.Int (signed_digits_value 10 s)) (λ in_range. unread (is_numeral s h, integer-fits (signed_digits_value 10 s) in_range))

pub millis_field-range : (s : List ℕ) → is_number s ≡ true → Unread s → millis_field s ≡ Err cause.Range
millis_field-range s h unread = range_by (is_moment (signed_digits_value 10 s)) (cell.Moment (signed_digits_value 10 s)) (λ in_range. unread (is_numeral s h, moment-fits (signed_digits_value 10 s) in_range))
