-- The text of a date, read and written.
use Rattle.std.proofs.Common.{◌≡◌, ℕ, ◌+◌, ◌-◌, ◌*◌, ◌/◌, ◌%◌, ◌<◌, inl, inr, true, false, List, [], ◌∷◌, ◌++◌, Option, Some, None, Result, Ok, Err, IfOk, refl, sym, ◌∙◌, ap, arith, ℤ, pos, codes}
use Rattle.std.proofs.lemmas.Bool.{cases_Bool, and_parts, and_from, eqb-true}
use Rattle.std.proofs.lemmas.Bool.Decides.{nat_tests}
use Rattle.std.specs.Option.{ok_or}
use Rattle.std.specs.Result.{result_ok}
use Rattle.std.specs.Int.{IsInRange}
use Rattle.std.specs.Char.{is_ascii_digit}
use Rattle.std.specs.Str.Parse.{digits_value}
use Rattle.jiff_core.specs.declared.civil.date.Date.{Date}
use Rattle.jiff_core.specs.Date.{epoch_day}
use Rattle.jiff_core.proofs.CalendarLemmas.{days_in_month_bounds}
use Rattle.cal_units.specs.Calendar.{IsDay, IsCalendarDay, year_of, month_of, day_of_month}
use Rattle.cal_units.specs.Digits.{fits_byte, fits, number_in, two_digits, four_digits}
use Rattle.cal_units.specs.DateText.{has_day, day_number, date_of, date_text}
use Rattle.cal_units.proofs.DayLemmas.{IsDate, parts_of, parts_are, is_day}
use Rattle.cal_units.proofs.DigitLemmas.{digit_value_is, length-fits}

-- the test says what the calendar has
pub true-has_day : (y m d : ℕ) → has_day y m d ≡ true → IsCalendarDay y m d
true-has_day y m d h = grind (arith, nat_tests)

pub has_day-true : (y m d : ℕ) → IsCalendarDay y m d → has_day y m d ≡ true
has_day-true y m d h = grind (arith, nat_tests)

pub has_day-false : (y m d : ℕ) → (IsCalendarDay y m d → ⊥) → has_day y m d ≡ false
has_day-false y m d h = elim (cases_Bool (has_day y m d)) [ inl is ↦ absurd (h (true-has_day y m d is)) | inr not ↦ not ]

-- a date of the calendar is what its parts name
pub day_number-date : (date : Date) (y m d : ℕ) → IsInRange 1 9999 y → date.year ≡ pos y → date.month ≡ m → date.day ≡ d → day_number y m d ≡ Some (epoch_day date)
day_number-date date y m d range year month day =
    let is : IsCalendarDay y m d = (range, rw month at date.month_in, rw (year, month, day) at date.day_in) in
    rw (has_day-true y m d is, year, month, day) refl

-- digits and their numbers
digit_range : (c : ℕ) → is_ascii_digit c ≡ true → IsInRange 48 57 c
digit_range c h = grind (arith, nat_tests)

pub two_digits-value : (a b : ℕ) → IsInRange 48 57 a → IsInRange 48 57 b → two_digits (digits_value 10 (a ∷ b ∷ [])) ≡ a ∷ b ∷ []
two_digits-value a b h k =
    let n : digits_value 10 (a ∷ b ∷ []) ≡ (a - 48) * 10 + (b - 48) = omega (arith, digit_value_is a h, digit_value_is b k) in
    let x : 48 + digits_value 10 (a ∷ b ∷ []) / 10 ≡ a = omega arith in
    let y : 48 + digits_value 10 (a ∷ b ∷ []) % 10 ≡ b = omega arith in
    rw (x, y) refl

pub four_digits-value : (a b c d : ℕ) → IsInRange 48 57 a → IsInRange 48 57 b → IsInRange 48 57 c → IsInRange 48 57 d → four_digits (digits_value 10 (a ∷ b ∷ c ∷ d ∷ [])) ≡ a ∷ b ∷ c ∷ d ∷ []
four_digits-value a b c d h i j k =
    let n : digits_value 10 (a ∷ b ∷ c ∷ d ∷ []) ≡ (a - 48) * 1000 + (b - 48) * 100 + (c - 48) * 10 + (d - 48) =
    omega (arith, digit_value_is a h, digit_value_is b i, digit_value_is c j, digit_value_is d k) in
    let w : 48 + digits_value 10 (a ∷ b ∷ c ∷ d ∷ []) / 1000 ≡ a = omega arith in
    let x : 48 + digits_value 10 (a ∷ b ∷ c ∷ d ∷ []) / 100 % 10 ≡ b = omega arith in
    let y : 48 + digits_value 10 (a ∷ b ∷ c ∷ d ∷ []) / 10 % 10 ≡ c = omega arith in
    let z : 48 + digits_value 10 (a ∷ b ∷ c ∷ d ∷ []) % 10 ≡ d = omega arith in
    rw (w, x, y, z) refl

pub value-two_digits : (n : ℕ) → n < 100 → digits_value 10 (two_digits n) ≡ n
value-two_digits n h =
    omega (arith, digit_value_is (48 + n / 10) (omega arith), digit_value_is (48 + n % 10) (omega arith))

pub value-four_digits : (n : ℕ) → n < 10_000 → digits_value 10 (four_digits n) ≡ n
value-four_digits n h =
    omega (arith, digit_value_is (48 + n / 1000) (omega arith), digit_value_is (48 + n / 100 % 10) (omega arith), digit_value_is (48 + n / 10 % 10) (omega arith), digit_value_is (48 + n % 10) (omega arith))

-- the first byte of a text that fits, and the rest
fits-front : (x : ℕ) (p : List ℕ) (c : ℕ) (t : List ℕ) → fits (x ∷ p) (c ∷ t) ≡ true → (fits_byte x c ≡ true) × (fits p t ≡ true)
unfolding fits
fits-front x p c t h = and_parts (fits_byte x c) (fits p t) h

fits-digit : (p : List ℕ) (c : ℕ) (t : List ℕ) → fits (100 ∷ p) (c ∷ t) ≡ true → IsInRange 48 57 c × (fits p t ≡ true)
fits-digit p c t h = let parts = fits-front 100 p c t h in (digit_range c parts.0, parts.1)

fits-dash : (p : List ℕ) (c : ℕ) (t : List ℕ) → fits (45 ∷ p) (c ∷ t) ≡ true → (c ≡ 45) × (fits p t ≡ true)
fits-dash p c t h = let parts = fits-front 45 p c t h in (sym (eqb-true 45 c parts.0), parts.1)

-- a text of the form is what its numbers write
date_shape : (t : List ℕ) → fits (codes "dddd-dd-dd") t ≡ true → t ≡ four_digits (number_in t 0 4) ++ codes "-" ++ two_digits (number_in t 5 7) ++ codes "-" ++ two_digits (number_in t 8 10)
date_shape (a ∷ b ∷ c ∷ d ∷ e ∷ f ∷ g ∷ h ∷ i ∷ j ∷ []) form =
    let fa = fits-digit _ a _ form in
    let fb = fits-digit _ b _ fa.1 in
    let fc = fits-digit _ c _ fb.1 in
    let fd = fits-digit _ d _ fc.1 in
    let fe = fits-dash _ e _ fd.1 in
    let ff = fits-digit _ f _ fe.1 in
    let fg = fits-digit _ g _ ff.1 in
    let fh = fits-dash _ h _ fg.1 in
    let fi = fits-digit _ i _ fh.1 in
    let fj = fits-digit _ j _ fi.1 in
    let year = ap (λ (x : List ℕ). x ++ codes "-" ++ (f ∷ g ∷ []) ++ codes "-" ++ (i ∷ j ∷ [])) (four_digits-value a b c d fa.0 fb.0 fc.0 fd.0) in
    let month = ap (λ (x : List ℕ). four_digits (digits_value 10 (a ∷ b ∷ c ∷ d ∷ [])) ++ codes "-" ++ x ++ codes "-" ++ (i ∷ j ∷ [])) (two_digits-value f g ff.0 fg.0) in
    let day = ap (λ (x : List ℕ). four_digits (digits_value 10 (a ∷ b ∷ c ∷ d ∷ [])) ++ codes "-" ++ two_digits (digits_value 10 (f ∷ g ∷ [])) ++ codes "-" ++ x) (two_digits-value i j fi.0 fj.0) in
    rw (fe.0, fh.0) (sym (day ∙ month ∙ year))
date_shape t form = absurd (let n = length-fits (codes "dddd-dd-dd") t form in omega arith)

-- what is read names a day of the calendar
pub record IsDateText (t : List ℕ) (s : ℤ) : Type 0 where
  pub form : fits (codes "dddd-dd-dd") t ≡ true
  pub date : IsDate s (number_in t 0 4) (number_in t 5 7) (number_in t 8 10)

pub date_of-form : (t : List ℕ) → fits (codes "dddd-dd-dd") t ≡ true → date_of t ≡ day_number (number_in t 0 4) (number_in t 5 7) (number_in t 8 10)
unfolding date_of
date_of-form t form = rw form refl

pub date_of-no_form : (t : List ℕ) → fits (codes "dddd-dd-dd") t ≡ false → date_of t ≡ None
unfolding date_of
date_of-no_form t form = rw form refl

day_number-some : (y m d : ℕ) (s : ℤ) → day_number y m d ≡ Some s → IsDate s y m d
day_number-some y m d s e =
    elim (cases_Bool (has_day y m d)) [
      | inl is ↦ record { calendar = true-has_day y m d is; number = (let e₂ = rw is at e in cc) }
      | inr not ↦ absurd (let e₂ = rw not at e in cc)
    ]

-- a day of the calendar is in range
pub day_number-range : (y m d : ℕ) (s : ℤ) → day_number y m d ≡ Some s → IsDay s
day_number-range y m d s e =
    let is = day_number-some y m d s e in
    rw (sym is.number) (is_day y m d is.calendar)

pub date_of-some : (t : List ℕ) (s : ℤ) → date_of t ≡ Some s → IsDateText t s
date_of-some t s e =
    elim (cases_Bool (fits (codes "dddd-dd-dd") t)) [
      | inl form ↦ record { form = form; date = day_number-some _ _ _ s (sym (date_of-form t form) ∙ e) }
      | inr not ↦ absurd (let none = sym (date_of-no_form t not) ∙ e in cc)
    ]

-- so it lies in range, and the text is its text
pub date_of-range : (t : List ℕ) (s : ℤ) → date_of t ≡ Some s → IsDay s
date_of-range t s e =
    let is = (date_of-some t s e).date in
    rw is.number at (is_day _ _ _ is.calendar)

pub date_of-text : (t : List ℕ) (s : ℤ) → date_of t ≡ Some s → t ≡ date_text s
unfolding date_text
date_of-text t s e =
    let is = date_of-some t s e in
    let are = parts_are s (date_of-range t s e) _ _ _ is.date in
    rw (are.0, are.1, are.2) (date_shape t is.form)

-- the same of an answer
pub result_ok-ok_or : {T E : Type 0} (o : Option T) (e : E) → result_ok (ok_or o e) ≡ o
result_ok-ok_or None e = refl
result_ok-ok_or (Some x) e = refl

pub read_range : {E : Type 0} (r : Result ℤ E) (t : List ℕ) → result_ok r ≡ date_of t → IfOk r IsDay
read_range (Ok s) t e = date_of-range t s (sym e)
read_range (Err x) t e = tt

pub read_text : {E : Type 0} (r : Result ℤ E) (t : List ℕ) → result_ok r ≡ date_of t → IfOk r (λ s. t ≡ date_text s)
read_text (Ok s) t e = date_of-text t s (sym e)
read_text (Err x) t e = tt

-- digits fit a pattern's digits
digit-fits : (p : List ℕ) (k : ℕ) (t : List ℕ) → k < 10 → fits p t ≡ true → fits (100 ∷ p) ((48 + k) ∷ t) ≡ true
unfolding fits
digit-fits p k t h rest =
    let digit : is_ascii_digit (48 + k) ≡ true = grind (arith, nat_tests) in
    and_from (is_ascii_digit (48 + k)) (fits p t) digit rest

dash-fits : (p t : List ℕ) → fits p t ≡ true → fits (45 ∷ p) (45 ∷ t) ≡ true
unfolding fits
dash-fits p t rest = rest

end-fits : fits [] [] ≡ true
unfolding fits
end-fits = refl

-- the text of a year, a month and a day
abbrev parts_text : ℕ → ℕ → ℕ → List ℕ
parts_text y m d = four_digits y ++ codes "-" ++ two_digits m ++ codes "-" ++ two_digits d

parts_text-fits : (y m d : ℕ) → y < 10_000 → m < 100 → d < 100 → fits (codes "dddd-dd-dd") (parts_text y m d) ≡ true
parts_text-fits y m d h i j =
    digit-fits _ (y / 1000) _ (omega arith)
    (digit-fits _ (y / 100 % 10) _ (omega arith)
    (digit-fits _ (y / 10 % 10) _ (omega arith)
    (digit-fits _ (y % 10) _ (omega arith)
    (dash-fits _ _
    (digit-fits _ (m / 10) _ (omega arith)
    (digit-fits _ (m % 10) _ (omega arith)
    (dash-fits _ _
    (digit-fits _ (d / 10) _ (omega arith)
    (digit-fits _ (d % 10) _ (omega arith) end-fits)))))))))

parts_text-date_of : (y m d : ℕ) → y < 10_000 → m < 100 → d < 100 → date_of (parts_text y m d) ≡ day_number y m d
parts_text-date_of y m d h i j =
    date_of-form (parts_text y m d) (parts_text-fits y m d h i j)
    ∙ ap (λ n. day_number n (digits_value 10 (two_digits m)) (digits_value 10 (two_digits d))) (value-four_digits y h)
    ∙ ap (λ n. day_number y n (digits_value 10 (two_digits d))) (value-two_digits m i)
    ∙ ap (λ n. day_number y m n) (value-two_digits d j)

-- a text that was written is read back
pub date_of-date_text : (s : ℤ) → IsDay s → date_of (date_text s) ≡ Some s
unfolding date_text
date_of-date_text s range =
    let is = parts_of s range in
    let long = days_in_month_bounds (pos (year_of s)) (month_of s) in
    parts_text-date_of (year_of s) (month_of s) (day_of_month s) (omega (arith, is.calendar.0)) (omega (arith, is.calendar.1)) (omega (arith, is.calendar.2))
    ∙ rw (has_day-true _ _ _ is.calendar, is.number) refl

-- ten bytes that are the text of a day
pub record AreDigitsOf (y m d a₁ a₂ a₃ a₄ b₁ b₂ c₁ c₂ : ℕ) : Type 0 where
  pub thousands : a₁ ≡ 48 + y / 1000
  pub hundreds : a₂ ≡ 48 + y / 100 % 10
  pub tens : a₃ ≡ 48 + y / 10 % 10
  pub ones : a₄ ≡ 48 + y % 10
  pub month_tens : b₁ ≡ 48 + m / 10
  pub month_ones : b₂ ≡ 48 + m % 10
  pub day_tens : c₁ ≡ 48 + d / 10
  pub day_ones : c₂ ≡ 48 + d % 10

pub date_text_is : (s : ℤ) (a₁ a₂ a₃ a₄ b₁ b₂ c₁ c₂ : ℕ) → AreDigitsOf (year_of s) (month_of s) (day_of_month s) a₁ a₂ a₃ a₄ b₁ b₂ c₁ c₂ → a₁ ∷ a₂ ∷ a₃ ∷ a₄ ∷ 45 ∷ b₁ ∷ b₂ ∷ 45 ∷ c₁ ∷ c₂ ∷ [] ≡ date_text s
unfolding date_text
date_text_is s a₁ a₂ a₃ a₄ b₁ b₂ c₁ c₂ h =
    rw (h.thousands, h.hundreds, h.tens, h.ones, h.month_tens, h.month_ones, h.day_tens, h.day_ones) refl
