-- Each byte that fits leaves the question to what is left.
use Rattle.std.proofs.Common.{sym, ◌∙◌, false, true}
use Rattle.cal_units.proofs.DigitLemmas.{fits-apart, fits-step, fits-end}
use Rattle.cal_units.proofs.digits.fits.Goals as goal

pub returns-then-pattern-text-clause-value : goal.returns-then-pattern-text-clause-value
returns-then-pattern-text-clause-value c = sym (fits-apart _ _ c.if-pattern-text.true)

pub returns-then-not-fits_byte-clause-value : goal.returns-then-not-fits_byte-clause-value
returns-then-not-fits_byte-clause-value c =
    sym (fits-step _ _ c.loop-i.i false c.if-pattern-text.false c.loop-i-test.true c.loop-i.invariant
    (sym c.if-not-fits_byte.true ∙ c.fits_byte.ensures))

pub loop-i-preserved : goal.loop-i-preserved
loop-i-preserved c =
    fits-step _ _ c.loop-i.i true c.if-pattern-text.false c.loop-i-test.true c.loop-i.invariant
    (sym c.if-not-fits_byte.false ∙ c.fits_byte.ensures)

pub returns-clause-value : goal.returns-clause-value
returns-clause-value c = sym (fits-end _ _ c.loop-i.i c.if-pattern-text.false c.loop-i-test.false c.loop-i.invariant)
