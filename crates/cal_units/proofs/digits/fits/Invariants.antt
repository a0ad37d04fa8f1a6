use Rattle.std.proofs.Common.{◌≡◌, drop}
use Rattle.cal_units.specs.Digits.{fits}
use Rattle.cal_units.proofs.digits.fits.Given as goal

-- what is left decides
abbrev pub invariant-loop-i : goal.invariant-loop-i
invariant-loop-i l = fits l.pattern l.text ≡ fits (drop l.i l.pattern) (drop l.i l.text)
