-- Days and moments by number, on the calendar that ISO 8601 carries back to the year 1.
use Rattle.std.specs.Prelude.{ℕ, zero, suc, ◌+◌, Bool, ◌&&◌, if◌then◌else◌, ℤ, pos, neg_ℤ, ◌+ℤ◌, ◌-ℤ◌, int_le, unsigned_abs}
use Rattle.std.specs.Int.{IsInRange, int_div_euclid}
use Rattle.jiff_core.specs.Calendar.{IsBetween, days_in_month, days_from_civil}

-- a day number, counted from 1970-01-01, of a day from 0001-01-01 to 9999-12-31
abbrev pub IsDay : ℤ → Type 0
IsDay day = IsBetween (neg_ℤ (pos 719_162)) (pos 2_932_896) day

-- whole milliseconds since 1970-01-01T00:00:00Z, on one of these days
abbrev pub IsMoment : ℤ → Type 0
IsMoment ms = IsBetween (neg_ℤ (pos 62_135_596_800_000)) (pos 253_402_300_799_999) ms

-- the same as tests
abbrev pub is_day : ℤ → Bool
is_day day = int_le (neg_ℤ (pos 719_162)) day && int_le day (pos 2_932_896)

abbrev pub is_moment : ℤ → Bool
is_moment ms = int_le (neg_ℤ (pos 62_135_596_800_000)) ms && int_le ms (pos 253_402_300_799_999)

-- the calendar has this day, and its year is 1 to 9999
abbrev pub IsCalendarDay : ℕ → ℕ → ℕ → Type 0
IsCalendarDay y m d = IsInRange 1 9999 y × IsInRange 1 12 m × IsInRange 1 (days_in_month (pos y) m) d

-- how many of the numbers from 1 to n pass the test
unfoldable pub count_to : (ℕ → Bool) → ℕ → ℕ
count_to p zero = 0
count_to p (suc n) = count_to p n + (if p (suc n) then 1 else 0)

-- the year of a day: as many years as have begun by it
unfoldable pub year_of : ℤ → ℕ
year_of day = count_to (λ y. int_le (days_from_civil (pos y) 1 1) day) 9999

-- its month: as many months of that year as have begun by it
unfoldable pub month_of : ℤ → ℕ
month_of day = count_to (λ m. int_le (days_from_civil (pos (year_of day)) m 1) day) 12

-- its day of the month: 1 for the first of the month
unfoldable pub day_of_month : ℤ → ℕ
day_of_month day =
    unsigned_abs (day +ℤ pos 1 -ℤ days_from_civil (pos (year_of day)) (month_of day) 1)

-- the milliseconds of a day, an hour, a minute and a second
abbrev pub day_millis : ℕ
day_millis = 86_400_000

abbrev pub hour_millis : ℕ
hour_millis = 3_600_000

abbrev pub minute_millis : ℕ
minute_millis = 60_000

abbrev pub second_millis : ℕ
second_millis = 1_000

-- the day on which a moment lies, in UTC
abbrev pub day_at : ℤ → ℤ
day_at ms = int_div_euclid ms (pos day_millis)
