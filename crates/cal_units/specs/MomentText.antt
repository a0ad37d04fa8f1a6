-- The text of a moment: `YYYY-MM-DDThh:mm:ss`, a fraction of a second or none, and a zone.
use Rattle.std.specs.Prelude.{ℕ, ◌+◌, ◌*◌, nat_eq, nat_lt, nat_le, ◌&&◌, if◌then◌else◌, List, ◌++◌, length, take, drop, slice_range, Option, Some, None, option_map, option_and_then, Result, Ok, Err, ℤ, pos, neg_ℤ, ◌+ℤ◌, ◌-ℤ◌, ◌*ℤ◌, codes}
use Rattle.std.specs.List.{starts_with, prefix_len}
use Rattle.std.specs.Char.{is_ascii_digit}
use Rattle.std.specs.Str.Parse.{digits_value}
use Rattle.cal_units.specs.declared.moments.MomentRefused.{MomentRefused}
use Rattle.cal_units.specs.declared.moments.MomentRefused.TheVariants.{NotAMoment, OutOfRange}
use Rattle.cal_units.specs.Calendar.{is_moment, day_millis, hour_millis, minute_millis, second_millis}
use Rattle.cal_units.specs.Digits.{fits, number_in}
use Rattle.cal_units.specs.DateText.{date_of}

-- the milliseconds of an hour 00 to 23, a minute 00 to 59 and a second 00 to 59
abbrev pub clock_millis : ℕ → ℕ → ℕ → Option ℕ
clock_millis hour minute second =
    if nat_lt hour 24 && nat_lt minute 60 && nat_lt second 60
    then Some (hour * hour_millis + minute * minute_millis + second * second_millis) else None

-- the milliseconds since midnight that `Thh:mm:ss` names
unfoldable pub clock_of : List ℕ → Option ℕ
clock_of text =
    if fits (codes "Tdd:dd:dd") text
    then clock_millis (number_in text 1 3) (number_in text 4 6) (number_in text 7 9) else None

-- the milliseconds of the `hh:mm` that follows a sign
abbrev pub offset_of : List ℕ → Option ℕ
offset_of text = clock_millis (number_in text 1 3) (number_in text 4 6) 0

-- the milliseconds by which the time of a zone, `Z`, `+hh:mm` or `-hh:mm`, is ahead of UTC
unfoldable pub zone_of : List ℕ → Option ℤ
zone_of text =
    if fits (codes "Z") text then Some (pos 0)
    else (if fits (codes "+dd:dd") text then option_map (λ ms. pos ms) (offset_of text)
    else (if fits (codes "-dd:dd") text then option_map (λ ms. neg_ℤ (pos ms)) (offset_of text)
    else None))

-- the milliseconds of one to nine digits of a fraction: of the first three, where zeros stand for
-- missing ones
abbrev pub fraction_millis : List ℕ → Option ℕ
fraction_millis digits =
    if nat_le 1 (length digits) && nat_le (length digits) 9
    then Some (digits_value 10 (take 3 (digits ++ codes "00"))) else None

-- the milliseconds of the digits that follow a point, less those by which the zone after them is ahead
unfoldable pub fraction_of : List ℕ → Option ℤ
fraction_of text =
    let count = prefix_len is_ascii_digit text in
    option_and_then (λ ms. option_map (λ ahead. pos ms -ℤ ahead) (zone_of (drop count text)))
    (fraction_millis (take count text))

-- what follows the seconds: a point, a fraction and a zone, or a zone alone
unfoldable pub tail_of : List ℕ → Option ℤ
tail_of text =
    if starts_with nat_eq text (codes ".") then fraction_of (drop 1 text)
    else option_map (λ ahead. neg_ℤ ahead) (zone_of text)

-- the milliseconds since 1970-01-01T00:00:00Z that a text of the form names, in range or not
unfoldable pub instant_of : List ℕ → Option ℤ
instant_of text =
    option_and_then (λ day. option_and_then (λ clock. option_map (λ rest.
    day *ℤ pos day_millis +ℤ pos clock +ℤ rest)
    (tail_of (drop 19 text))) (clock_of (slice_range text 10 19))) (date_of (take 10 text))

-- the same as a moment in range, or why there is none
abbrev pub in_range : Option ℤ → Result ℤ MomentRefused
in_range None = Err NotAMoment
in_range (Some ms) = if is_moment ms then Ok ms else Err OutOfRange

abbrev pub moment_of : List ℕ → Result ℤ MomentRefused
moment_of text = in_range (instant_of text)
