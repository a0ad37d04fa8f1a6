-- The parts of the text in turn.
use Rattle.std.proofs.Common.{◌≡◌, ◌<◌, ◌+ℤ◌, ◌*ℤ◌, pos, ℤ, Some, option_map, sym, ◌∙◌, ap, arith, w64, to_z, of_z}
use Rattle.std.proofs.lemmas.List.{take_rest}
use Rattle.jiff_core.specs.Calendar.{IsWithin}
use Rattle.jiff_core.proofs.SignedLemmas.{signed_casts}
use Rattle.cal_units.specs.Calendar.{IsDay}
use Rattle.cal_units.specs.MomentText.{tail_of}
use Rattle.cal_units.proofs.MomentTextLemmas.{instant_of-short, instant_of-no_date, instant_of-no_clock, instant_of-some}
use Rattle.cal_units.proofs.moments.instant.Goals as goal

pub returns-then-text-lt19 : goal.returns-then-text-lt19
returns-then-text-lt19 c = sym (instant_of-short _ c.if-text-lt19.true)

pub returns-in_default : goal.returns-in_default
returns-in_default c =
    sym (instant_of-no_date _ c.in_default.ensures.value)

pub returns-in_err-clock : goal.returns-in_err-clock
returns-in_err-clock c =
    c.from_residual.ensures ∙ sym (instant_of-no_clock _ c.in_err-clock.ensures.value)

pub returns-in_err-rest : goal.returns-in_err-rest
returns-in_err-rest c =
    c.from_residual-in_err-rest.ensures
    ∙ ap (option_map (λ (rest : ℤ). c.in-Ok.day *ℤ pos 86_400_000 +ℤ pos c.in_ok-clock.clock +ℤ rest)) (c.in_err-rest.ensures.value ∙ ap tail_of (take_rest c.args.text.now 19))
    ∙ sym (instant_of-some c.args.text.now c.in-Ok.day c.in_ok-clock.clock c.in-Ok.ensures.value c.in_ok-clock.ensures.value)

pub returns : goal.returns
returns c =
    let day : IsDay c.in-Ok.day = c.in-Ok.ensures.in_range in
    let clock : c.in_ok-clock.clock < 86_400_000 = c.in_ok-clock.ensures.bound in
    let rest : IsWithin 86_400_999 c.in_ok-rest.rest = c.in_ok-rest.ensures.bound in
    let is : to_z w64 (of_z w64 (to_z w64 (of_z w64 (to_z w64 (of_z w64 (to_z w64 (of_z w64 c.from.result) *ℤ pos 86_400_000)) +ℤ to_z w64 (of_z w64 c.from-2.result))) +ℤ to_z w64 (of_z w64 c.in_ok-rest.rest))) ≡ c.in-Ok.day *ℤ pos 86_400_000 +ℤ pos c.in_ok-clock.clock +ℤ c.in_ok-rest.rest = omega (arith, signed_casts) in
    ap Some is
    ∙ ap (option_map (λ (rest : ℤ). c.in-Ok.day *ℤ pos 86_400_000 +ℤ pos c.in_ok-clock.clock +ℤ rest)) (c.in_ok-rest.ensures.value ∙ ap tail_of (take_rest c.args.text.now 19))
    ∙ sym (instant_of-some c.args.text.now c.in-Ok.day c.in_ok-clock.clock c.in-Ok.ensures.value c.in_ok-clock.ensures.value)
