-- The cell that a number or a text is in a column of some type, or the cause against it.
use Rattle.std.specs.Prelude.{ℕ, ℤ, nat_lt, List, length, Option, Some, None, Result, Ok, Err, if◌then◌else◌}
use Rattle.cal_units.specs.Calendar.{is_moment}
use Rattle.cal_units.specs.DateText.{date_of}
use Rattle.cal_units.specs.MomentText.{moment_of}
use Rattle.cal_units.specs.declared.moments.MomentRefused.{MomentRefused}
use Rattle.cal_units.specs.declared.moments.MomentRefused.TheVariants.{NotAMoment, OutOfRange}
use Rattle.cell_core.specs.declared.cell.Cell.{Cell}
use Rattle.cell_core.specs.declared.cell.Cell.TheVariants as cell
use Rattle.cell_core.specs.Limits.{max_text, is_integer}
use Rattle.row_batch.specs.declared.refused.RowCause.{RowCause}
use Rattle.row_batch.specs.declared.refused.RowCause.TheVariants as cause

-- a whole number in a column of integers
abbrev pub integer_cell : ℤ → Result Cell RowCause
integer_cell z = if is_integer z then Ok (cell.Int z) else Err cause.Range

-- a number of milliseconds in a column of datetimes
abbrev pub millis_cell : ℤ → Result Cell RowCause
millis_cell ms = if is_moment ms then Ok (cell.Moment ms) else Err cause.Range

-- a text in a column of dates
abbrev pub day_cell : Option ℤ → Result Cell RowCause
day_cell (Some day) = Ok (cell.Date day)
day_cell None = Err cause.Date

abbrev pub date_cell : List ℕ → Result Cell RowCause
date_cell text = day_cell (date_of text)

-- a text in a column of datetimes
abbrev pub instant_cell : Result ℤ MomentRefused → Result Cell RowCause
instant_cell (Ok ms) = Ok (cell.Moment ms)
instant_cell (Err NotAMoment) = Err cause.Date
instant_cell (Err OutOfRange) = Err cause.Range

abbrev pub moment_cell : List ℕ → Result Cell RowCause
moment_cell text = instant_cell (moment_of text)

-- a text in a column of texts has at most 256 bytes
abbrev pub words_cell : List ℕ → Result Cell RowCause
words_cell text = if nat_lt max_text (length text) then Err cause.Long else Ok (cell.Words text)
