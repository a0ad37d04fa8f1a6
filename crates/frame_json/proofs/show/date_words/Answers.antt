use Rattle.frame_json.proofs.Dates.{IsUtf8-date}
use Rattle.frame_json.proofs.show.date_words.Goals as goal

pub unreachable-requires : goal.unreachable-requires
unreachable-requires c = c.in-Err.ensures.cases.0 (IsUtf8-date c.write_date-digits.result _ c.write_date-digits.ensures.read_back)
