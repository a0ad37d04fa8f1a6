-- The calendar has one date of a day number.
use Rattle.std.proofs.Common.{◌≡◌, rules, pos, subst}
use Rattle.jiff_core.specs.Date.{epoch_day}
use Rattle.cal_units.specs.Calendar.{IsDay, year_of, month_of, day_of_month}
use Rattle.cal_units.proofs.DayLemmas.{date_is}
use Rattle.cal_units.proofs.dates.date_at.Goals as goal

range : (c : goal.After-from_plain) → IsDay c.args.day
range c = subst IsDay c.number.ensures.number c.number.ensures.range

number : (c : goal.After-from_plain) → epoch_day c.from_plain.result ≡ c.args.day
number c = search rules

parts : (c : goal.After-from_plain) → (c.from_plain.result.year ≡ pos (year_of c.args.day)) × (c.from_plain.result.month ≡ month_of c.args.day) × (c.from_plain.result.day ≡ day_of_month c.args.day)
parts c = date_is c.from_plain.result c.args.day (range c) (number c)

pub returns-clause-year : goal.returns-clause-year
returns-clause-year c = (parts c).0

pub returns-clause-month : goal.returns-clause-month
returns-clause-month c = (parts c).1

pub returns-clause-day : goal.returns-clause-day
returns-clause-day c = (parts c).2
