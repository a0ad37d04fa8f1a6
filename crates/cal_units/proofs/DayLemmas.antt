-- The year, the month and the day of the month of a day number, which are those of the calendar's day.
use Rattle.std.proofs.Common.{◌≡◌, ℕ, zero, suc, ◌+◌, ◌<◌, ◌≤◌, inl, inr, Bool, true, false, refl, sym, ◌∙◌, arith, ℤ, pos, negsuc, ◌+ℤ◌, ◌-ℤ◌, ◌<ℤ◌, ◌≤ℤ◌, int_le, unsigned_abs}
use Rattle.std.proofs.lemmas.Bool.{cases_Bool, cases_order, both_ways}
use Rattle.std.proofs.lemmas.Int.{ints}
use Rattle.std.specs.Int.{IsInRange}
use Rattle.jiff_core.specs.declared.civil.date.Date.{Date}
use Rattle.jiff_core.specs.Calendar.{day_count, days_from_civil, days_in_month}
use Rattle.jiff_core.specs.Date.{epoch_day}
use Rattle.jiff_core.proofs.SignedLemmas.{signed_arith}
use Rattle.jiff_core.proofs.MarchLemmas.{day_count-early}
use Rattle.jiff_core.proofs.CalendarLemmas.{days_from_civil-day_count, day_count-later_year, day_count-next_year, day_count-next_month, day_count-last_of_year, day_count-day, day_count-end, day_count-day_of_year, days_in_year_bounds}
use Rattle.jiff_core.proofs.DateLemmas.{epoch_day_injective, epoch_day_range}
use Rattle.cal_units.specs.Calendar.{IsDay, IsCalendarDay, count_to, year_of, month_of, day_of_month}

-- `<=` of signed numbers, as a test
int_le-true : (a b : ℤ) → a ≤ℤ b → int_le a b ≡ true
int_le-true a b h = grind (arith, ints)

true-int_le : (a b : ℤ) → int_le a b ≡ true → a ≤ℤ b
true-int_le a b h = grind (arith, ints)

false-int_le : (a b : ℤ) → int_le a b ≡ false → b <ℤ a
false-int_le a b h = grind (arith, ints)

-- a test that holds up to a number, and not past it
pub record IsThreshold (p : ℕ → Bool) (n t : ℕ) : Type 0 where
  pub most : t ≤ n
  pub below : (k : ℕ) → 1 ≤ k → k ≤ t → p k ≡ true
  pub above : (k : ℕ) → t < k → k ≤ n → p k ≡ false

more_pass : (p : ℕ → Bool) (n t : ℕ) → ((k : ℕ) → 1 ≤ k → p (suc k) ≡ true → p k ≡ true) → IsThreshold p n t → p (suc n) ≡ true → IsThreshold p (suc n) (t + 1)
more_pass p n t back old passes =
    let full : t ≡ n = elim (cases_order t n) [
      | inl same ↦ same
      | inr (inl lt) ↦ absurd (both_ways (p n) (old.above n lt (omega arith)) (back n (omega arith) passes))
      | inr (inr gt) ↦ absurd (omega (arith, old.most))
    ] in
    record {
      most = omega arith;
      below = λ k low high. elim (cases_order k (suc n)) [
        | inl same ↦ rw same passes
        | inr (inl lt) ↦ old.below k low (omega arith)
        | inr (inr gt) ↦ absurd (omega arith)
      ];
      above = λ k low high. absurd (omega arith);
    }

no_more : (p : ℕ → Bool) (n t : ℕ) → IsThreshold p n t → p (suc n) ≡ false → IsThreshold p (suc n) (t + 0)
no_more p n t old fails =
    let same : t + 0 ≡ t = omega arith in
    rw same (record {
      most = omega (arith, old.most);
      below = old.below;
      above = λ k low high. elim (cases_order k (suc n)) [
        | inl same ↦ rw same fails
        | inr (inl lt) ↦ old.above k low (omega arith)
        | inr (inr gt) ↦ absurd (omega arith)
      ];
    })

-- a test that holds where it holds one further: the count of those that pass is its threshold
pub count_to_is : (p : ℕ → Bool) → ((k : ℕ) → 1 ≤ k → p (suc k) ≡ true → p k ≡ true) → (n : ℕ) → IsThreshold p n (count_to p n)
unfolding count_to
count_to_is p back zero = record {
  most = omega arith;
  below = λ k low high. absurd (omega arith);
  above = λ k low high. absurd (omega arith);
}
count_to_is p back (suc n) =
    elim (cases_Bool (p (suc n))) [
      | inl passes ↦ rw passes (more_pass p n (count_to p n) back (count_to_is p back n) passes)
      | inr fails ↦ rw fails (no_more p n (count_to p n) (count_to_is p back n) fails)
    ]

day_count-first_year : day_count (pos 1) 1 1 ≡ 3_652_791
day_count-first_year = day_count-early (pos 1) 10000 1 1 refl (omega arith) (omega arith) (omega arith)

-- a year begins before the next does, and a month too
year-next : (k : ℕ) → days_from_civil (pos k) 1 1 <ℤ days_from_civil (pos (suc k)) 1 1
year-next k =
    omega (arith, signed_arith, days_from_civil-day_count, days_in_year_bounds (pos k), day_count-later_year (pos k) (pos (suc k)) (omega (arith, signed_arith)) (omega (arith, signed_arith)))

month-next : (y k : ℕ) → 1 ≤ k → days_from_civil (pos y) (suc k) 1 ≡ days_from_civil (pos y) k 1 +ℤ pos (days_in_month (pos y) k)
month-next y k low =
    let next : k + 1 ≡ suc k = omega arith in
    omega (arith, signed_arith, days_from_civil-day_count, rw next at (day_count-next_month (pos y) k low))

-- of what begins at `first 1`, `first 2` and so on in this order, those up to t have begun by s
record HaveBegun (first : ℕ → ℤ) (s : ℤ) (n t : ℕ) : Type 0 where
  most : t ≤ n
  begun : (k : ℕ) → 1 ≤ k → k ≤ t → first k ≤ℤ s
  later : (k : ℕ) → t < k → k ≤ n → s <ℤ first k

have_begun : (first : ℕ → ℤ) (s : ℤ) → ((k : ℕ) → 1 ≤ k → first k ≤ℤ first (suc k)) → (n : ℕ) → HaveBegun first s n (count_to (λ k. int_le (first k) s) n)
have_begun first s order n =
    let back : (k : ℕ) → 1 ≤ k → int_le (first (suc k)) s ≡ true → int_le (first k) s ≡ true =
    λ k low passes. let next = true-int_le (first (suc k)) s passes in
    let before = order k low in int_le-true (first k) s (omega (arith, signed_arith)) in
    let found = count_to_is (λ k. int_le (first k) s) back n in
    record {
      most = found.most;
      begun = λ k low high. true-int_le (first k) s (found.below k low high);
      later = λ k low high. false-int_le (first k) s (found.above k low high);
    }

years : (s : ℤ) → HaveBegun (λ y. days_from_civil (pos y) 1 1) s 9999 (year_of s)
unfolding year_of
years s =
    have_begun (λ y. days_from_civil (pos y) 1 1) s (λ k low. let before = year-next k in omega (arith, signed_arith)) 9999

months : (s : ℤ) → HaveBegun (λ m. days_from_civil (pos (year_of s)) m 1) s 12 (month_of s)
unfolding month_of
months s =
    have_begun (λ m. days_from_civil (pos (year_of s)) m 1) s (λ k low. let before = month-next (year_of s) k low in omega (arith, signed_arith)) 12

-- a day lies in its year
pub record InYear (s : ℤ) (y : ℕ) : Type 0 where
  pub in_range : IsInRange 1 9999 y
  pub begun : days_from_civil (pos y) 1 1 ≤ℤ s
  pub ends : s <ℤ days_from_civil (pos (suc y)) 1 1

pub in_year : (s : ℤ) → IsDay s → InYear s (year_of s)
in_year s range =
    let y = years s in
    let some : 1 ≤ year_of s = elim (cases_order 0 (year_of s)) [
      | inl none ↦ absurd (omega (arith, signed_arith, days_from_civil-day_count, day_count-first_year, y.later 1 (omega arith) (omega arith)))
      | inr (inl lt) ↦ omega arith
      | inr (inr gt) ↦ absurd (omega arith)
    ] in
    let next : s <ℤ days_from_civil (pos (suc (year_of s))) 1 1 = elim (cases_order (year_of s) 9999) [
      | inl last ↦ rw last (omega (arith, signed_arith, days_from_civil-day_count, day_count-end))
      | inr (inl lt) ↦ y.later (suc (year_of s)) (omega arith) (omega arith)
      | inr (inr gt) ↦ absurd (omega (arith, y.most))
    ] in
    record { in_range = (some, y.most); begun = y.begun (year_of s) some (omega arith); ends = next }

-- and in its month
record InMonth (s : ℤ) (y m : ℕ) : Type 0 where
  in_range : IsInRange 1 12 m
  begun : days_from_civil (pos y) m 1 ≤ℤ s
  ends : s <ℤ days_from_civil (pos y) (suc m) 1

year_end : (y : ℕ) → days_from_civil (pos (suc y)) 1 1 ≡ days_from_civil (pos y) 13 1
year_end y =
    omega (arith, signed_arith, days_from_civil-day_count, day_count-last_of_year (pos y), day_count-next_month (pos y) 12 (omega arith), day_count-day (pos y) 12 31 1 (omega arith) (omega arith), day_count-next_year (pos y) (pos (suc y)) (omega (arith, signed_arith)) (omega (arith, signed_arith)))

in_month : (s : ℤ) → IsDay s → InMonth s (year_of s) (month_of s)
in_month s range =
    let y = in_year s range in
    let m = months s in
    let some : 1 ≤ month_of s = elim (cases_order 0 (month_of s)) [
      | inl none ↦ absurd (omega (arith, signed_arith, y.begun, m.later 1 (omega arith) (omega arith)))
      | inr (inl lt) ↦ omega arith
      | inr (inr gt) ↦ absurd (omega arith)
    ] in
    let next : s <ℤ days_from_civil (pos (year_of s)) (suc (month_of s)) 1 = elim (cases_order (month_of s) 12) [
      | inl last ↦ rw last (rw year_end at y.ends)
      | inr (inl lt) ↦ m.later (suc (month_of s)) (omega arith) (omega arith)
      | inr (inr gt) ↦ absurd (omega (arith, m.most))
    ] in
    record { in_range = (some, m.most); begun = m.begun (month_of s) some (omega arith); ends = next }

-- the calendar's day y-m-d has the day number s
pub record IsDate (s : ℤ) (y m d : ℕ) : Type 0 where
  pub calendar : IsCalendarDay y m d
  pub number : days_from_civil (pos y) m d ≡ s

in_month_is : (s : ℤ) (y m d : ℕ) → InMonth s y m → IsInRange 1 9999 y → pos d ≡ s +ℤ pos 1 -ℤ days_from_civil (pos y) m 1 → IsDate s y m d
in_month_is s y m d h year e =
    let next = month-next y m h.in_range.0 in
    let low : 1 ≤ d = omega (arith, signed_arith, h.begun) in
    let high : d ≤ days_in_month (pos y) m = omega (arith, signed_arith, h.ends) in
    record {
      calendar = (year, h.in_range, (low, high));
      number = omega (arith, signed_arith, days_from_civil-day_count, day_count-day (pos y) m d 1 low (omega arith));
    }

abs_is : (z : ℤ) → pos 0 ≤ℤ z → pos (unsigned_abs z) ≡ z
abs_is (pos n) h = refl
abs_is (negsuc n) h = absurd (omega (arith, signed_arith))

-- each day has a date, which is that of its year, month and day of the month
pub parts_of : (s : ℤ) → IsDay s → IsDate s (year_of s) (month_of s) (day_of_month s)
unfolding day_of_month
parts_of s range =
    let y = in_year s range in
    let m = in_month s range in
    let n = s +ℤ pos 1 -ℤ days_from_civil (pos (year_of s)) (month_of s) 1 in
    in_month_is s (year_of s) (month_of s) (unsigned_abs n) m y.in_range (abs_is n (omega (arith, signed_arith, m.begun)))

-- a calendar day as a date
abbrev pub date_with : (y m d : ℕ) → IsCalendarDay y m d → Date
date_with y m d h = record {
  year = pos y;
  month = m;
  day = d;
  year_in = omega (arith, signed_arith, h.0);
  month_in = h.1;
  day_in = h.2;
}

-- there is one date of a day
pub parts_are : (s : ℤ) → IsDay s → (y m d : ℕ) → IsDate s y m d → (year_of s ≡ y) × (month_of s ≡ m) × (day_of_month s ≡ d)
parts_are s range y m d is =
    let own = parts_of s range in
    let same = epoch_day_injective (date_with _ _ _ own.calendar) (date_with y m d is.calendar) (own.number ∙ sym is.number) in
    (omega (arith, signed_arith, same.0), same.1, same.2)

pub date_is : (d : Date) (s : ℤ) → IsDay s → epoch_day d ≡ s → (d.year ≡ pos (year_of s)) × (d.month ≡ month_of s) × (d.day ≡ day_of_month s)
date_is d s range e =
    let own = parts_of s range in
    epoch_day_injective d (date_with _ _ _ own.calendar) (e ∙ sym own.number)

-- and its number is in range
pub is_day : (y m d : ℕ) → IsCalendarDay y m d → IsDay (days_from_civil (pos y) m d)
is_day y m d h =
    let top = epoch_day_range (date_with y m d h) in
    let start : 3_652_791 ≤ day_count (pos y) 1 1 = elim (cases_order 1 y) [
      | inl same ↦ rw (← same) (omega (arith, day_count-first_year))
      | inr (inl lt) ↦ omega (arith, day_count-first_year, day_count-later_year (pos 1) (pos y) (omega (arith, signed_arith)) (omega (arith, signed_arith)))
      | inr (inr gt) ↦ absurd (omega (arith, h.0))
    ] in
    omega (arith, signed_arith, days_from_civil-day_count, day_count-day_of_year (pos y) m d h.2.0)
