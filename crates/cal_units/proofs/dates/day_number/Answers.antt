-- `jiff` has the day exactly where the calendar does.
use Rattle.std.proofs.Common.{◌≡◌, pos, sym, ap, ◌∙◌, arith, w32, Some, of_z, to_z}
use Rattle.jiff_core.proofs.SignedLemmas.{signed_casts}
use Rattle.jiff_core.specs.Date.{epoch_day}
use Rattle.cal_units.specs.DateText.{day_number}
use Rattle.cal_units.proofs.DateTextLemmas.{day_number-date, day_number-range}
use Rattle.cal_units.proofs.dates.day_number.Goals as goal

value : (c : goal.After-to_unix_epoch_day) → day_number c.args.year c.args.month c.args.day ≡ Some (epoch_day c.in-Ok.date)
value c =
    let is = c.in-Ok.ensures.value in
    let year : c.in-Ok.date.year ≡ pos c.args.year = omega (arith, signed_casts) in
    let month : c.in-Ok.date.month ≡ c.args.month = omega (arith, signed_casts) in
    let day : c.in-Ok.date.day ≡ c.args.day = omega (arith, signed_casts) in
    day_number-date c.in-Ok.date c.args.year c.args.month c.args.day (omega arith) year month day

number : (c : goal.After-to_unix_epoch_day) → to_z w32 (of_z w32 c.to_unix_epoch_day.result) ≡ epoch_day c.in-Ok.date
number c =
    let back : to_z w32 (of_z w32 c.to_unix_epoch_day.result) ≡ c.to_unix_epoch_day.result = omega (arith, signed_casts) in
    back ∙ c.to_unix_epoch_day.ensures.value ∙ ap epoch_day c.to_plain.ensures

pub of-requires : goal.of-requires
of-requires c = rw (number c) (day_number-range c.args.year c.args.month c.args.day _ (value c))

pub returns-in-Ok : goal.returns-in-Ok
returns-in-Ok c = ap Some (c.of.ensures ∙ number c.before) ∙ sym (value c.before)
