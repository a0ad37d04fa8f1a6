-- The digits in front are the fraction, and the rest is the zone.
use Rattle.std.proofs.Common.{◌≡◌, ◌<◌, ◌-ℤ◌, pos, ℤ, Some, option_map, sym, ◌∙◌, ap, arith, w64, to_z, of_z}
use Rattle.jiff_core.specs.Calendar.{IsWithin}
use Rattle.jiff_core.proofs.SignedLemmas.{signed_casts}
use Rattle.cal_units.specs.MomentText.{zone_of, fraction_millis}
use Rattle.cal_units.proofs.MomentTextLemmas.{front_digits, fraction_of-none, fraction_of-some}
use Rattle.cal_units.proofs.moments.fraction.Goals as goal

pub fraction_millis-requires : goal.fraction_millis-requires
fraction_millis-requires c =
    rw c.split_at.ensures.front (front_digits c.args.text.now c.leading_digits.result c.leading_digits.ensures.value)

pub returns-in_err-ms-clause-value : goal.returns-in_err-ms-clause-value
returns-in_err-ms-clause-value c =
    c.from_residual.ensures
    ∙ sym (fraction_of-none c.args.text.now c.leading_digits.result c.leading_digits.ensures.value (c.in_err-ms.ensures.value ∙ ap fraction_millis c.split_at.ensures.front))

pub returns-in_err-ahead-clause-value : goal.returns-in_err-ahead-clause-value
returns-in_err-ahead-clause-value c =
    c.from_residual-in_err-ahead.ensures
    ∙ ap (option_map (λ (ahead : ℤ). pos c.in_ok-ms.ms -ℤ ahead)) (c.in_err-ahead.ensures.value ∙ ap zone_of c.split_at.ensures.back)
    ∙ sym (fraction_of-some c.args.text.now c.leading_digits.result c.in_ok-ms.ms c.leading_digits.ensures.value (c.in_ok-ms.ensures.value ∙ ap fraction_millis c.split_at.ensures.front))

pub returns-clause-value : goal.returns-clause-value
returns-clause-value c =
    let bound : IsWithin 86_400_000 c.in_ok-ahead.ahead = c.in_ok-ahead.ensures.bound in
    let small : c.in_ok-ms.ms < 1_000 = c.in_ok-ms.ensures.bound in
    let is : to_z w64 (of_z w64 (to_z w64 (of_z w64 c.from.result) -ℤ to_z w64 (of_z w64 c.in_ok-ahead.ahead))) ≡ pos c.in_ok-ms.ms -ℤ c.in_ok-ahead.ahead = omega (arith, signed_casts) in
    ap Some is
    ∙ ap (option_map (λ (ahead : ℤ). pos c.in_ok-ms.ms -ℤ ahead)) (c.in_ok-ahead.ensures.value ∙ ap zone_of c.split_at.ensures.back)
    ∙ sym (fraction_of-some c.args.text.now c.leading_digits.result c.in_ok-ms.ms c.leading_digits.ensures.value (c.in_ok-ms.ensures.value ∙ ap fraction_millis c.split_at.ensures.front))
