-- A point begins a fraction, and else all is the zone.
use Rattle.std.proofs.Common.{◌≡◌, ◌-ℤ◌, ℤ, pos, neg_ℤ, Some, option_map, sym, ◌∙◌, ap, arith, w64, to_z, of_z}
use Rattle.std.proofs.lemmas.List.{take_rest}
use Rattle.jiff_core.specs.Calendar.{IsWithin}
use Rattle.jiff_core.proofs.SignedLemmas.{signed_casts}
use Rattle.cal_units.specs.MomentText.{fraction_of}
use Rattle.cal_units.proofs.MomentTextLemmas.{tail_of-point, tail_of-zone}
use Rattle.cal_units.proofs.moments.tail.Goals as goal

pub returns-then-starts_with-clause-value : goal.returns-then-starts_with-clause-value
returns-then-starts_with-clause-value c =
    c.fraction.ensures.value ∙ ap fraction_of (take_rest c.args.text.now 1)
    ∙ sym (tail_of-point _ (sym c.starts_with.ensures.value ∙ c.if-starts_with.true))

pub returns-in_err-ahead-clause-value : goal.returns-in_err-ahead-clause-value
returns-in_err-ahead-clause-value c =
    c.from_residual.ensures ∙ ap (option_map (λ (ahead : ℤ). neg_ℤ ahead)) c.in_err-ahead.ensures.value
    ∙ sym (tail_of-zone _ (sym c.starts_with.ensures.value ∙ c.if-starts_with.false))

pub returns-clause-value : goal.returns-clause-value
returns-clause-value c =
    let bound : IsWithin 86_400_000 c.in_ok-ahead.ahead = c.in_ok-ahead.ensures.bound in
    let is : to_z w64 (of_z w64 (pos 0 -ℤ to_z w64 (of_z w64 c.in_ok-ahead.ahead))) ≡ neg_ℤ c.in_ok-ahead.ahead = omega (arith, signed_casts) in
    ap Some is ∙ ap (option_map (λ (ahead : ℤ). neg_ℤ ahead)) c.in_ok-ahead.ensures.value
    ∙ sym (tail_of-zone _ (sym c.starts_with.ensures.value ∙ c.if-starts_with.false))
