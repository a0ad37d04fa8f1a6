-- The text of a date, `YYYY-MM-DD`.
use Rattle.std.specs.Prelude.{ℕ, Bool, nat_le, ◌&&◌, if◌then◌else◌, List, ◌++◌, Option, Some, None, ℤ, pos, codes}
use Rattle.jiff_core.specs.Calendar.{days_in_month, days_from_civil}
use Rattle.cal_units.specs.Calendar.{year_of, month_of, day_of_month}
use Rattle.cal_units.specs.Digits.{fits, number_in, two_digits, four_digits}

-- the calendar has this day, and its year is 1 to 9999
abbrev pub has_day : ℕ → ℕ → ℕ → Bool
has_day y m d =
    nat_le 1 y && nat_le y 9999 && nat_le 1 m && nat_le m 12 && nat_le 1 d
    && nat_le d (days_in_month (pos y) m)

-- the number of that day, if there is one
abbrev pub day_number : ℕ → ℕ → ℕ → Option ℤ
day_number y m d = if has_day y m d then Some (days_from_civil (pos y) m d) else None

-- the number of the day that `YYYY-MM-DD` names
unfoldable pub date_of : List ℕ → Option ℤ
date_of text =
    if fits (codes "dddd-dd-dd") text
    then day_number (number_in text 0 4) (number_in text 5 7) (number_in text 8 10) else None

-- the text of the day with that number
unfoldable pub date_text : ℤ → List ℕ
date_text day =
    four_digits (year_of day) ++ codes "-" ++ two_digits (month_of day) ++ codes "-"
    ++ two_digits (day_of_month day)
