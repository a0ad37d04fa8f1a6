-- A text of the form has digits where its numbers stand.
use Rattle.std.proofs.Common.{sym, ◌∙◌, refl, ap, codes}
use Rattle.std.specs.Result.{result_ok}
use Rattle.cal_units.proofs.DigitLemmas.{digits_at}
use Rattle.cal_units.proofs.DateTextLemmas.{result_ok-ok_or, read_range, read_text, date_of-form, date_of-no_form}
use Rattle.cal_units.proofs.dates.read_date.Goals as goal

pub returns-then-not-fits-clause-value : goal.returns-then-not-fits-clause-value
returns-then-not-fits-clause-value c = sym (date_of-no_form _ (sym c.fits.ensures.value ∙ c.if-not-fits.true))

pub number-year-requires-clause-digits : goal.number-year-requires-clause-digits
number-year-requires-clause-digits c =
    digits_at (codes "dddd-dd-dd") _ 0 4 (sym c.fits.ensures.value ∙ c.if-not-fits.false) refl

pub number-month-requires-clause-digits : goal.number-month-requires-clause-digits
number-month-requires-clause-digits c =
    digits_at (codes "dddd-dd-dd") _ 5 2 (sym c.fits.ensures.value ∙ c.if-not-fits.false) refl

pub number-day-requires-clause-digits : goal.number-day-requires-clause-digits
number-day-requires-clause-digits c =
    digits_at (codes "dddd-dd-dd") _ 8 2 (sym c.fits.ensures.value ∙ c.if-not-fits.false) refl

pub returns-clause-value : goal.returns-clause-value
returns-clause-value c =
    ap result_ok c.ok_or.ensures.value ∙ result_ok-ok_or _ _ ∙ c.day_number.ensures
    ∙ rw (c.number-year.ensures.value, c.number-month.ensures.value, c.number-day.ensures.value) (sym (date_of-form _ (sym c.fits.ensures.value ∙ c.if-not-fits.false)))

pub returns-clause-in_range : goal.returns-clause-in_range
returns-clause-in_range c = read_range _ _ (returns-clause-value c)

pub returns-clause-written : goal.returns-clause-written
returns-clause-written c = read_text _ _ (returns-clause-value c)
