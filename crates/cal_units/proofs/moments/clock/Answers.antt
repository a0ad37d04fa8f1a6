-- A text of the form has digits where its numbers stand.
use Rattle.std.proofs.Common.{sym, ◌∙◌, refl, codes}
use Rattle.cal_units.proofs.DigitLemmas.{digits_at}
use Rattle.cal_units.proofs.MomentTextLemmas.{clock_of-no_form, clock_of-form}
use Rattle.cal_units.proofs.moments.clock.Goals as goal

pub returns-then-not-fits-clause-value : goal.returns-then-not-fits-clause-value
returns-then-not-fits-clause-value c = sym (clock_of-no_form _ (sym c.fits.ensures.value ∙ c.if-not-fits.true))

pub number-hour-requires-clause-digits : goal.number-hour-requires-clause-digits
number-hour-requires-clause-digits c =
    digits_at (codes "Tdd:dd:dd") _ 1 2 (sym c.fits.ensures.value ∙ c.if-not-fits.false) refl

pub number-minute-requires-clause-digits : goal.number-minute-requires-clause-digits
number-minute-requires-clause-digits c =
    digits_at (codes "Tdd:dd:dd") _ 4 2 (sym c.fits.ensures.value ∙ c.if-not-fits.false) refl

pub number-second-requires-clause-digits : goal.number-second-requires-clause-digits
number-second-requires-clause-digits c =
    digits_at (codes "Tdd:dd:dd") _ 7 2 (sym c.fits.ensures.value ∙ c.if-not-fits.false) refl

pub returns-clause-value : goal.returns-clause-value
returns-clause-value c =
    c.clock_millis.ensures.value
    ∙ rw (c.number-hour.ensures.value, c.number-minute.ensures.value, c.number-second.ensures.value) (sym (clock_of-form _ (sym c.fits.ensures.value ∙ c.if-not-fits.false)))
