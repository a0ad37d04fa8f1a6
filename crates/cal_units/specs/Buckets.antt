-- Where the units of the calendar and of the clock start.
use Rattle.std.specs.Prelude.{◌≡◌, ℕ, ℤ, pos, ◌*ℤ◌, ◌-ℤ◌, ◌≤ℤ◌, ⊤}
use Rattle.std.specs.Int.{int_rem_euclid}
use Rattle.jiff_core.specs.Calendar.{days_from_civil, weekday_number}
use Rattle.cal_units.specs.declared.buckets.Unit.{Unit as TimeUnit}
use Rattle.cal_units.specs.declared.buckets.Unit.TheVariants.{Y, M, W, D, H, Min, S}
use Rattle.cal_units.specs.Calendar.{IsDay, IsMoment, year_of, month_of, day_of_month, day_at, day_millis, hour_millis, minute_millis, second_millis}

-- a year, a month, a week or a day
abbrev pub IsDateUnit : TimeUnit → Type 0
IsDateUnit Y = ⊤
IsDateUnit M = ⊤
IsDateUnit W = ⊤
IsDateUnit D = ⊤
IsDateUnit H = ⊥
IsDateUnit Min = ⊥
IsDateUnit S = ⊥

-- such a unit starts with that day: 1 January, the first of a month, a Monday, and any day
abbrev pub StartsOn : TimeUnit → ℤ → Type 0
StartsOn Y day = (month_of day ≡ 1) × (day_of_month day ≡ 1)
StartsOn M day = day_of_month day ≡ 1
StartsOn W day = weekday_number day ≡ 0
StartsOn D day = ⊤
StartsOn H day = ⊤
StartsOn Min day = ⊤
StartsOn S day = ⊤

-- a whole number of such lengths
abbrev pub IsMultiple : ℕ → ℤ → Type 0
IsMultiple length ms = int_rem_euclid ms (pos length) ≡ pos 0

-- such a unit starts at that moment, in UTC
abbrev pub StartsAt : TimeUnit → ℤ → Type 0
StartsAt Y ms = IsMultiple day_millis ms × StartsOn Y (day_at ms)
StartsAt M ms = IsMultiple day_millis ms × StartsOn M (day_at ms)
StartsAt W ms = IsMultiple day_millis ms × StartsOn W (day_at ms)
StartsAt D ms = IsMultiple day_millis ms
StartsAt H ms = IsMultiple hour_millis ms
StartsAt Min ms = IsMultiple minute_millis ms
StartsAt S ms = IsMultiple second_millis ms

-- s is the greatest start of such a unit that is not later than the day
pub record IsDateBucket (unit : TimeUnit) (day s : ℤ) : Type 0 where
  pub in_range : IsDay s
  pub start : StartsOn unit s
  pub not_later : s ≤ℤ day
  pub greatest : (other : ℤ) → IsDay other → StartsOn unit other → other ≤ℤ day → other ≤ℤ s

-- the same of a moment
pub record IsMomentBucket (unit : TimeUnit) (ms s : ℤ) : Type 0 where
  pub in_range : IsMoment s
  pub start : StartsAt unit s
  pub not_later : s ≤ℤ ms
  pub greatest : (other : ℤ) → IsMoment other → StartsAt unit other → other ≤ℤ ms → other ≤ℤ s

-- the day's own year, month, week or day begins with this day
abbrev pub date_bucket : TimeUnit → ℤ → ℤ
date_bucket Y day = days_from_civil (pos (year_of day)) 1 1
date_bucket M day = days_from_civil (pos (year_of day)) (month_of day) 1
date_bucket W day = day -ℤ pos (weekday_number day)
date_bucket D day = day
date_bucket H day = day
date_bucket Min day = day
date_bucket S day = day

-- a moment less what it is past the last whole number of such lengths
abbrev pub floor_to : ℕ → ℤ → ℤ
floor_to length ms = ms -ℤ int_rem_euclid ms (pos length)

-- the moment's own year, month, .. begins at this moment
abbrev pub moment_bucket : TimeUnit → ℤ → ℤ
moment_bucket Y ms = date_bucket Y (day_at ms) *ℤ pos day_millis
moment_bucket M ms = date_bucket M (day_at ms) *ℤ pos day_millis
moment_bucket W ms = date_bucket W (day_at ms) *ℤ pos day_millis
moment_bucket D ms = floor_to day_millis ms
moment_bucket H ms = floor_to hour_millis ms
moment_bucket Min ms = floor_to minute_millis ms
moment_bucket S ms = floor_to second_millis ms
