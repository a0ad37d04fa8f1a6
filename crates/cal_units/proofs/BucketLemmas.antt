-- The first day of a day's year, month or week, and the first millisecond of a moment's unit, are the
-- greatest starts that are not later.
use Rattle.std.proofs.Common.{◌≡◌, ℕ, ◌+◌, ◌-◌, inl, inr, refl, sym, ◌∙◌, arith, ℤ, pos, neg_ℤ, ◌-ℤ◌, ◌*ℤ◌, ◌<ℤ◌, ◌≤ℤ◌}
use Rattle.jiff_core.specs.Calendar.{days_from_civil, weekday_number}
use Rattle.jiff_core.proofs.SignedLemmas.{signed_arith, int_div_euclid-parts, int_rem_euclid-parts}
use Rattle.jiff_core.proofs.CalendarLemmas.{days_in_month_bounds, weekday_number-add, weekday_number-parts, weekday_number_bound}
use Rattle.jiff_core.proofs.DateLemmas.{IsEarlier, epoch_day-lt, cases_date, days_from_civil-day}
use Rattle.cal_units.specs.declared.buckets.Unit.{Unit as TimeUnit}
use Rattle.cal_units.specs.declared.buckets.Unit.TheVariants.{Y, M, W, D, H, Min, S}
use Rattle.cal_units.specs.Calendar.{IsDay, IsMoment, IsCalendarDay, year_of, month_of, day_of_month, day_at}
use Rattle.cal_units.specs.Buckets.{IsDateBucket, IsMomentBucket, IsMultiple, date_bucket, moment_bucket}
use Rattle.cal_units.proofs.DayLemmas.{IsDate, parts_of, parts_are, in_year, is_day, date_with}
use borrow.Author.Differences.{up, down}

-- of two days the one with the earlier date has the smaller number
earlier : (s o : ℤ) (y m d y₂ m₂ d₂ : ℕ) (is : IsDate s y m d) (other : IsDate o y₂ m₂ d₂) → IsEarlier (date_with y m d is.calendar) (date_with y₂ m₂ d₂ other.calendar) → s <ℤ o
earlier s o y m d y₂ m₂ d₂ is other h =
    rw (← is.number, ← other.number) (epoch_day-lt (date_with y m d is.calendar) (date_with y₂ m₂ d₂ other.calendar) h)

-- a first of a month that comes after the first of a day's month comes after the day
month_start_before : (s first o : ℤ) (y m d y₂ m₂ : ℕ) → IsDate s y m d → IsDate first y m 1 → IsDate o y₂ m₂ 1 → o ≤ℤ s → o ≤ℤ first
month_start_before s first o y m d y₂ m₂ is start other le =
    elim (cases_date (date_with y₂ m₂ 1 other.calendar) (date_with y m 1 start.calendar)) [
      | inl lt ↦ (let before = earlier o first _ _ _ _ _ _ other start lt in omega (arith, signed_arith))
      | inr (inl (inl year)) ↦ absurd (let before = earlier s o _ _ _ _ _ _ is other (inl year) in omega (arith, signed_arith))
      | inr (inl (inr (year, inl month))) ↦ absurd (let before = earlier s o _ _ _ _ _ _ is other (inr (year, inl month)) in omega (arith, signed_arith))
      | inr (inl (inr (year, inr (month, day)))) ↦ absurd (omega arith)
      | inr (inr (year, month, day)) ↦ (let same : o ≡ first = sym other.number ∙ rw (year, month) start.number in omega (arith, signed_arith))
    ]

-- the same of a 1 January
year_start_before : (s first o : ℤ) (y m d y₂ : ℕ) → IsDate s y m d → IsDate first y 1 1 → IsDate o y₂ 1 1 → o ≤ℤ s → o ≤ℤ first
year_start_before s first o y m d y₂ is start other le =
    elim (cases_date (date_with y₂ 1 1 other.calendar) (date_with y 1 1 start.calendar)) [
      | inl lt ↦ (let before = earlier o first _ _ _ _ _ _ other start lt in omega (arith, signed_arith))
      | inr (inl (inl year)) ↦ absurd (let before = earlier s o _ _ _ _ _ _ is other (inl year) in omega (arith, signed_arith))
      | inr (inl (inr (year, inl month))) ↦ absurd (omega arith)
      | inr (inl (inr (year, inr (month, day)))) ↦ absurd (omega arith)
      | inr (inr (year, month, day)) ↦ (let same : o ≡ first = sym other.number ∙ rw year start.number in omega (arith, signed_arith))
    ]

first_of_month : (y m d : ℕ) → IsCalendarDay y m d → IsDate (days_from_civil (pos y) m 1) y m 1
first_of_month y m d h = record {
  calendar = (h.0, h.1, (omega arith, omega (arith, days_in_month_bounds (pos y) m)));
  number = refl;
}

first_of_year : (y m d : ℕ) → IsCalendarDay y m d → IsDate (days_from_civil (pos y) 1 1) y 1 1
first_of_year y m d h = record {
  calendar = (h.0, (omega arith, omega arith), (omega arith, omega (arith, days_in_month_bounds (pos y) 1)));
  number = refl;
}

month_bucket : (s : ℤ) → IsDay s → IsDateBucket M s (date_bucket M s)
month_bucket s range =
    let own = parts_of s range in
    let start = first_of_month _ _ _ own.calendar in
    let in_range = is_day _ _ _ start.calendar in
    record {
      in_range = in_range;
      start = (parts_are _ in_range _ _ _ start).2;
      not_later = omega (arith, signed_arith, days_from_civil-day (pos (year_of s)) (month_of s) (day_of_month s) 1 own.calendar.2.0 (omega arith), own.number, own.calendar.2.0);
      greatest = λ o within first le. month_start_before s _ o _ _ _ _ _ own start (rw first at (parts_of o within)) le;
    }

year_bucket : (s : ℤ) → IsDay s → IsDateBucket Y s (date_bucket Y s)
year_bucket s range =
    let own = parts_of s range in
    let start = first_of_year _ _ _ own.calendar in
    let in_range = is_day _ _ _ start.calendar in
    record {
      in_range = in_range;
      start = (let are = parts_are _ in_range _ _ _ start in (are.1, are.2));
      not_later = (in_year s range).begun;
      greatest = λ o within first le. year_start_before s _ o _ _ _ _ own start (rw (first.0, first.1) at (parts_of o within)) le;
    }

-- how far a day is past an earlier Monday
past_monday : (s monday : ℤ) → weekday_number monday ≡ 0 → monday ≤ℤ s → monday ≤ℤ (s -ℤ pos (weekday_number s))
past_monday s monday start le =
    let k = up s + down monday - (down s + up monday) in
    let moved = weekday_number-add monday s k (omega (arith, signed_arith)) in
    omega (arith, signed_arith)

first_monday : weekday_number (neg_ℤ (pos 719_162)) ≡ 0
first_monday = omega (arith, signed_arith, weekday_number-parts (neg_ℤ (pos 719_162)))

week_bucket : (s : ℤ) → IsDay s → IsDateBucket W s (date_bucket W s)
week_bucket s range =
    let b = s -ℤ pos (weekday_number s) in
    let moved = weekday_number-add b s (weekday_number s) (omega (arith, signed_arith)) in
    let low = past_monday s (neg_ℤ (pos 719_162)) first_monday range.0 in
    record {
      in_range = (low, omega (arith, signed_arith));
      start = omega (arith, weekday_number_bound b, weekday_number_bound s);
      not_later = omega (arith, signed_arith);
      greatest = λ o within monday le. past_monday s o monday le;
    }

le-same : (s : ℤ) → s ≤ℤ s
le-same s = omega (arith, signed_arith)

-- the first day of the unit that a day lies in is its bucket
date_bucket_is : (unit : TimeUnit) (s : ℤ) → IsDay s → IsDateBucket unit s (date_bucket unit s)
date_bucket_is Y s range = year_bucket s range
date_bucket_is M s range = month_bucket s range
date_bucket_is W s range = week_bucket s range
date_bucket_is D s range = record { in_range = range; start = tt; not_later = le-same s; greatest = λ o within start le. le }
date_bucket_is H s range = record { in_range = range; start = tt; not_later = le-same s; greatest = λ o within start le. le }
date_bucket_is Min s range = record { in_range = range; start = tt; not_later = le-same s; greatest = λ o within start le. le }
date_bucket_is S s range = record { in_range = range; start = tt; not_later = le-same s; greatest = λ o within start le. le }

pub date_bucket_by_value : (unit : TimeUnit) (s b : ℤ) → IsDay s → b ≡ date_bucket unit s → IsDateBucket unit s b
date_bucket_by_value unit s b range e = rw e (date_bucket_is unit s range)

-- the day of a moment in range is in range
pub day_at-range : (ms : ℤ) → IsMoment ms → IsDay (day_at ms)
day_at-range ms range = omega (arith, signed_arith, int_div_euclid-parts ms 86_400_000 (omega arith))

day_floor : (ms : ℤ) → IsMoment ms → IsMomentBucket D ms (moment_bucket D ms)
day_floor ms range =
    let b = moment_bucket D ms in
    let q = int_div_euclid-parts ms 86_400_000 (omega arith) in
    let r = int_rem_euclid-parts ms 86_400_000 (omega arith) in
    let q₂ = int_div_euclid-parts b 86_400_000 (omega arith) in
    let r₂ = int_rem_euclid-parts b 86_400_000 (omega arith) in
    record {
      in_range = omega (arith, signed_arith);
      start = omega (arith, signed_arith);
      not_later = omega (arith, signed_arith);
      greatest = λ o within start le.
          let q₃ = int_div_euclid-parts o 86_400_000 (omega arith) in
          let r₃ = int_rem_euclid-parts o 86_400_000 (omega arith) in
          omega (arith, signed_arith);
    }

hour_floor : (ms : ℤ) → IsMoment ms → IsMomentBucket H ms (moment_bucket H ms)
hour_floor ms range =
    let b = moment_bucket H ms in
    let q = int_div_euclid-parts ms 3_600_000 (omega arith) in
    let r = int_rem_euclid-parts ms 3_600_000 (omega arith) in
    let q₂ = int_div_euclid-parts b 3_600_000 (omega arith) in
    let r₂ = int_rem_euclid-parts b 3_600_000 (omega arith) in
    record {
      in_range = omega (arith, signed_arith);
      start = omega (arith, signed_arith);
      not_later = omega (arith, signed_arith);
      greatest = λ o within start le.
          let q₃ = int_div_euclid-parts o 3_600_000 (omega arith) in
          let r₃ = int_rem_euclid-parts o 3_600_000 (omega arith) in
          omega (arith, signed_arith);
    }

minute_floor : (ms : ℤ) → IsMoment ms → IsMomentBucket Min ms (moment_bucket Min ms)
minute_floor ms range =
    let b = moment_bucket Min ms in
    let q = int_div_euclid-parts ms 60_000 (omega arith) in
    let r = int_rem_euclid-parts ms 60_000 (omega arith) in
    let q₂ = int_div_euclid-parts b 60_000 (omega arith) in
    let r₂ = int_rem_euclid-parts b 60_000 (omega arith) in
    record {
      in_range = omega (arith, signed_arith);
      start = omega (arith, signed_arith);
      not_later = omega (arith, signed_arith);
      greatest = λ o within start le.
          let q₃ = int_div_euclid-parts o 60_000 (omega arith) in
          let r₃ = int_rem_euclid-parts o 60_000 (omega arith) in
          omega (arith, signed_arith);
    }

second_floor : (ms : ℤ) → IsMoment ms → IsMomentBucket S ms (moment_bucket S ms)
second_floor ms range =
    let b = moment_bucket S ms in
    let q = int_div_euclid-parts ms 1_000 (omega arith) in
    let r = int_rem_euclid-parts ms 1_000 (omega arith) in
    let q₂ = int_div_euclid-parts b 1_000 (omega arith) in
    let r₂ = int_rem_euclid-parts b 1_000 (omega arith) in
    record {
      in_range = omega (arith, signed_arith);
      start = omega (arith, signed_arith);
      not_later = omega (arith, signed_arith);
      greatest = λ o within start le.
          let q₃ = int_div_euclid-parts o 1_000 (omega arith) in
          let r₃ = int_rem_euclid-parts o 1_000 (omega arith) in
          omega (arith, signed_arith);
    }

-- the first millisecond of a day
first_milli : (b : ℤ) → IsMultiple 86_400_000 (b *ℤ pos 86_400_000) × (day_at (b *ℤ pos 86_400_000) ≡ b)
first_milli b =
    let q = int_div_euclid-parts (b *ℤ pos 86_400_000) 86_400_000 (omega arith) in
    let r = int_rem_euclid-parts (b *ℤ pos 86_400_000) 86_400_000 (omega arith) in
    (omega (arith, signed_arith), omega (arith, signed_arith))

first_milli-le : (ms b : ℤ) → b ≤ℤ day_at ms → (b *ℤ pos 86_400_000) ≤ℤ ms
first_milli-le ms b le =
    let q = int_div_euclid-parts ms 86_400_000 (omega arith) in
    omega (arith, signed_arith)

first_milli-range : (ms b : ℤ) → IsMoment ms → IsDay b → (b *ℤ pos 86_400_000) ≤ℤ ms → IsMoment (b *ℤ pos 86_400_000)
first_milli-range ms b range within le = omega (arith, signed_arith)

day_at-le : (o ms : ℤ) → o ≤ℤ ms → day_at o ≤ℤ day_at ms
day_at-le o ms le =
    let q = int_div_euclid-parts ms 86_400_000 (omega arith) in
    let q₂ = int_div_euclid-parts o 86_400_000 (omega arith) in
    omega (arith, signed_arith)

le-first_milli : (o b : ℤ) → IsMultiple 86_400_000 o → day_at o ≤ℤ b → o ≤ℤ (b *ℤ pos 86_400_000)
le-first_milli o b whole le =
    let q = int_div_euclid-parts o 86_400_000 (omega arith) in
    let r = int_rem_euclid-parts o 86_400_000 (omega arith) in
    omega (arith, signed_arith)

year_bucket_at : (ms : ℤ) → IsMoment ms → IsMomentBucket Y ms (moment_bucket Y ms)
year_bucket_at ms range =
    let b = date_bucket Y (day_at ms) in
    let bucket = year_bucket (day_at ms) (day_at-range ms range) in
    let first = first_milli b in
    let le = first_milli-le ms b bucket.not_later in
    record {
      in_range = first_milli-range ms b range bucket.in_range le;
      start = (first.0, rw first.1 bucket.start);
      not_later = le;
      greatest = λ o within start before. le-first_milli o b start.0 (bucket.greatest (day_at o) (day_at-range o within) start.1 (day_at-le o ms before));
    }

month_bucket_at : (ms : ℤ) → IsMoment ms → IsMomentBucket M ms (moment_bucket M ms)
month_bucket_at ms range =
    let b = date_bucket M (day_at ms) in
    let bucket = month_bucket (day_at ms) (day_at-range ms range) in
    let first = first_milli b in
    let le = first_milli-le ms b bucket.not_later in
    record {
      in_range = first_milli-range ms b range bucket.in_range le;
      start = (first.0, rw first.1 bucket.start);
      not_later = le;
      greatest = λ o within start before. le-first_milli o b start.0 (bucket.greatest (day_at o) (day_at-range o within) start.1 (day_at-le o ms before));
    }

week_bucket_at : (ms : ℤ) → IsMoment ms → IsMomentBucket W ms (moment_bucket W ms)
week_bucket_at ms range =
    let b = date_bucket W (day_at ms) in
    let bucket = week_bucket (day_at ms) (day_at-range ms range) in
    let first = first_milli b in
    let le = first_milli-le ms b bucket.not_later in
    record {
      in_range = first_milli-range ms b range bucket.in_range le;
      start = (first.0, rw first.1 bucket.start);
      not_later = le;
      greatest = λ o within start before. le-first_milli o b start.0 (bucket.greatest (day_at o) (day_at-range o within) start.1 (day_at-le o ms before));
    }

-- the first millisecond of the unit that a moment lies in is its bucket
moment_bucket_is : (unit : TimeUnit) (ms : ℤ) → IsMoment ms → IsMomentBucket unit ms (moment_bucket unit ms)
moment_bucket_is Y ms range = year_bucket_at ms range
moment_bucket_is M ms range = month_bucket_at ms range
moment_bucket_is W ms range = week_bucket_at ms range
moment_bucket_is D ms range = day_floor ms range
moment_bucket_is H ms range = hour_floor ms range
moment_bucket_is Min ms range = minute_floor ms range
moment_bucket_is S ms range = second_floor ms range

pub moment_bucket_by_value : (unit : TimeUnit) (ms b : ℤ) → IsMoment ms → b ≡ moment_bucket unit ms → IsMomentBucket unit ms b
moment_bucket_by_value unit ms b range e = rw e (moment_bucket_is unit ms range)
