-- Each arm gives the first millisecond of the moment's unit, which is its bucket.
use Rattle.std.proofs.Common.{rules}
use Rattle.cal_units.proofs.BucketLemmas.{moment_bucket_by_value}
use Rattle.cal_units.proofs.buckets.unit_start_at.Goals as goal

pub returns-in-Y-clause-bucket : goal.returns-in-Y-clause-bucket
returns-in-Y-clause-bucket c = moment_bucket_by_value _ _ _ c.requires (search rules)

pub returns-in-M-clause-bucket : goal.returns-in-M-clause-bucket
returns-in-M-clause-bucket c = moment_bucket_by_value _ _ _ c.requires (search rules)

pub returns-in-W-clause-bucket : goal.returns-in-W-clause-bucket
returns-in-W-clause-bucket c = moment_bucket_by_value _ _ _ c.requires (search rules)

pub returns-in-D-clause-bucket : goal.returns-in-D-clause-bucket
returns-in-D-clause-bucket c = moment_bucket_by_value _ _ _ c.requires (search rules)

pub returns-in-H-clause-bucket : goal.returns-in-H-clause-bucket
returns-in-H-clause-bucket c = moment_bucket_by_value _ _ _ c.requires (search rules)

pub returns-in-Min-clause-bucket : goal.returns-in-Min-clause-bucket
returns-in-Min-clause-bucket c = moment_bucket_by_value _ _ _ c.requires (search rules)

pub returns-in-S-clause-bucket : goal.returns-in-S-clause-bucket
returns-in-S-clause-bucket c = moment_bucket_by_value _ _ _ c.requires (search rules)
