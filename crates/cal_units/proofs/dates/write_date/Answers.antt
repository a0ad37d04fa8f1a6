-- Each byte is the digit of the text.
use Rattle.std.proofs.Common.{pos, ap, ◌∙◌, arith}
use Rattle.jiff_core.proofs.SignedLemmas.{signed_casts}
use Rattle.jiff_core.proofs.CalendarLemmas.{days_in_month_bounds}
use Rattle.cal_units.specs.Calendar.{year_of, month_of}
use Rattle.cal_units.specs.DateText.{date_of}
use Rattle.cal_units.proofs.DateTextLemmas.{date_text_is, date_of-date_text}
use Rattle.cal_units.proofs.dates.write_date.Goals as goal

pub returns-clause-text : goal.returns-clause-text
returns-clause-text c =
    let parts = c.date_parts-parts.ensures in
    let year = parts.year in
    let month = parts.month in
    let day = parts.day in
    let own = parts.calendar in
    let long = days_in_month_bounds (pos (year_of c.args.day)) (month_of c.args.day) in
    date_text_is c.args.day _ _ _ _ _ _ _ _ (record {
      thousands = omega (arith, signed_casts, own.0, c.last_digit.ensures);
      hundreds = omega (arith, signed_casts, own.0, c.last_digit-2.ensures);
      tens = omega (arith, signed_casts, own.0, c.last_digit-3.ensures);
      ones = omega (arith, signed_casts, own.0, c.last_digit-4.ensures);
      month_tens = omega (arith, own.1, c.last_digit-5.ensures);
      month_ones = omega (arith, own.1, c.last_digit-6.ensures);
      day_tens = omega (arith, own.2, c.last_digit-7.ensures);
      day_ones = omega (arith, own.2, c.last_digit-8.ensures);
    })

pub returns-clause-read_back : goal.returns-clause-read_back
returns-clause-read_back c = ap date_of (returns-clause-text c) ∙ date_of-date_text c.args.day c.date_parts-parts.ensures.range
