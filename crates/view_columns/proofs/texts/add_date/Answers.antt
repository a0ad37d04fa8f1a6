use Rattle.view_columns.proofs.Dates.{IsUtf8-date}
use Rattle.view_columns.proofs.texts.add_date.Goals as goal

pub unreachable-requires : goal.unreachable-requires
unreachable-requires c = c.in-Err.ensures.cases.0 (IsUtf8-date c.write_date-digits.result _ c.write_date-digits.ensures.read_back)
