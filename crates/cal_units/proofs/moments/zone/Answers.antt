-- A zone is `Z`, or a sign and an offset.
use Rattle.std.proofs.Common.{◌≡◌, ◌-ℤ◌, pos, neg_ℤ, Some, option_map, sym, ◌∙◌, refl, ap, codes, arith, w64, to_z, of_z}
use Rattle.jiff_core.proofs.SignedLemmas.{signed_casts}
use Rattle.cal_units.proofs.DigitLemmas.{digits_at}
use Rattle.cal_units.proofs.MomentTextLemmas.{zone_of-utc, zone_of-ahead, zone_of-behind, zone_of-none}
use Rattle.cal_units.proofs.moments.zone.Goals as goal

pub returns-then-fits-clause-value : goal.returns-then-fits-clause-value
returns-then-fits-clause-value c = sym (zone_of-utc _ (sym c.fits.ensures.value ∙ c.if-fits.true))

pub offset-requires-clause-hour : goal.offset-requires-clause-hour
offset-requires-clause-hour c = digits_at (codes "+dd:dd") _ 1 2 (sym c.fits-2.ensures.value ∙ c.if-fits-2.true) refl

pub offset-requires-clause-minute : goal.offset-requires-clause-minute
offset-requires-clause-minute c = digits_at (codes "+dd:dd") _ 4 2 (sym c.fits-2.ensures.value ∙ c.if-fits-2.true) refl

pub returns-in_err-ahead-clause-value : goal.returns-in_err-ahead-clause-value
returns-in_err-ahead-clause-value c =
    c.from_residual.ensures ∙ ap (option_map (λ ms. pos ms)) c.in_err-ahead.ensures.value
    ∙ sym (zone_of-ahead _ (sym c.fits.ensures.value ∙ c.if-fits.false) (sym c.fits-2.ensures.value ∙ c.if-fits-2.true))

pub returns-then-fits-2-clause-value : goal.returns-then-fits-2-clause-value
returns-then-fits-2-clause-value c =
    let is : to_z w64 (of_z w64 c.from.result) ≡ pos c.in_ok-ahead.ahead = omega (arith, signed_casts) in
    ap Some is ∙ ap (option_map (λ ms. pos ms)) c.in_ok-ahead.ensures.value
    ∙ sym (zone_of-ahead _ (sym c.fits.ensures.value ∙ c.if-fits.false) (sym c.fits-2.ensures.value ∙ c.if-fits-2.true))

pub offset-requires-then-fits-3-clause-hour : goal.offset-requires-then-fits-3-clause-hour
offset-requires-then-fits-3-clause-hour c = digits_at (codes "-dd:dd") _ 1 2 (sym c.fits-3.ensures.value ∙ c.if-fits-3.true) refl

pub offset-requires-then-fits-3-clause-minute : goal.offset-requires-then-fits-3-clause-minute
offset-requires-then-fits-3-clause-minute c = digits_at (codes "-dd:dd") _ 4 2 (sym c.fits-3.ensures.value ∙ c.if-fits-3.true) refl

pub returns-in_err-behind-clause-value : goal.returns-in_err-behind-clause-value
returns-in_err-behind-clause-value c =
    c.from_residual-in_err-behind.ensures ∙ ap (option_map (λ ms. neg_ℤ (pos ms))) c.in_err-behind.ensures.value
    ∙ sym (zone_of-behind _ (sym c.fits.ensures.value ∙ c.if-fits.false) (sym c.fits-2.ensures.value ∙ c.if-fits-2.false) (sym c.fits-3.ensures.value ∙ c.if-fits-3.true))

pub returns-then-fits-3-clause-value : goal.returns-then-fits-3-clause-value
returns-then-fits-3-clause-value c =
    let is : to_z w64 (of_z w64 (pos 0 -ℤ to_z w64 (of_z w64 c.from-then-fits-3.result))) ≡ neg_ℤ (pos c.in_ok-behind.behind) = omega (arith, signed_casts) in
    ap Some is ∙ ap (option_map (λ ms. neg_ℤ (pos ms))) c.in_ok-behind.ensures.value
    ∙ sym (zone_of-behind _ (sym c.fits.ensures.value ∙ c.if-fits.false) (sym c.fits-2.ensures.value ∙ c.if-fits-2.false) (sym c.fits-3.ensures.value ∙ c.if-fits-3.true))

pub returns-clause-value : goal.returns-clause-value
returns-clause-value c =
    sym (zone_of-none _ (sym c.fits.ensures.value ∙ c.if-fits.false) (sym c.fits-2.ensures.value ∙ c.if-fits-2.false) (sym c.fits-3.ensures.value ∙ c.if-fits-3.false))
