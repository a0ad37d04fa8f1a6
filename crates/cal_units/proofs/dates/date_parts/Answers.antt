-- The date's parts are those of the day, by `date_at`.
use Rattle.std.proofs.Common.{◌≡◌, pos, ap, ◌∙◌, arith}
use Rattle.jiff_core.proofs.SignedLemmas.{signed_arith}
use Rattle.cal_units.specs.Calendar.{year_of}
use Rattle.cal_units.proofs.DayLemmas.{parts_of}
use Rattle.cal_units.proofs.dates.date_parts.Goals as goal

year : (c : goal.After-from) → c.to_plain-date.result.year ≡ pos (year_of c.args.day)
year c = ap (λ d. d.year) c.to_plain-date.ensures ∙ c.date_at.ensures.year

pub returns-clause-year : goal.returns-clause-year
returns-clause-year c =
    let same = year c in
    let own = parts_of c.args.day c.date_at.ensures.range in
    omega (arith, signed_arith, own.calendar.0)

pub returns-clause-month : goal.returns-clause-month
returns-clause-month c = ap (λ d. d.month) c.to_plain-date.ensures ∙ c.date_at.ensures.month

pub returns-clause-day : goal.returns-clause-day
returns-clause-day c = ap (λ d. d.day) c.to_plain-date.ensures ∙ c.date_at.ensures.day

pub returns-clause-calendar : goal.returns-clause-calendar
returns-clause-calendar c = (parts_of c.args.day c.date_at.ensures.range).calendar

pub returns-clause-number : goal.returns-clause-number
returns-clause-number c =
    rw (returns-clause-year c, returns-clause-month c, returns-clause-day c) (parts_of c.args.day c.date_at.ensures.range).number
