-- Each arm gives the first day of the day's unit, which is its bucket.
use Rattle.std.proofs.Common.{rules}
use Rattle.cal_units.proofs.BucketLemmas.{date_bucket_by_value}
use Rattle.cal_units.proofs.buckets.unit_start.Goals as goal

pub returns-in-Y-clause-bucket : goal.returns-in-Y-clause-bucket
returns-in-Y-clause-bucket c = date_bucket_by_value _ _ _ c.requires.day (search rules)

pub returns-in-M-clause-bucket : goal.returns-in-M-clause-bucket
returns-in-M-clause-bucket c = date_bucket_by_value _ _ _ c.requires.day (search rules)

pub returns-in-W-clause-bucket : goal.returns-in-W-clause-bucket
returns-in-W-clause-bucket c = date_bucket_by_value _ _ _ c.requires.day (search rules)
