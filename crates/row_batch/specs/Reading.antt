-- What a reader of rows or keys answers, where one outcome is right.
use Rattle.std.specs.Prelude.{◌≡◌, Result, Err}
use Rattle.row_batch.specs.declared.refused.BatchRefused.{BatchRefused}
use Rattle.row_batch.specs.declared.refused.RowsRefused.{RowsRefused}
use Rattle.row_batch.specs.declared.refused.RowsRefused.TheVariants.{Bad, Memory}

-- a refusal is the right one, but for want of memory, which may come in any case
abbrev pub RefusesRows : {X : Type 0} → Result X BatchRefused → RowsRefused → Type 0
RefusesRows outcome (Bad why) = outcome ≡ Err why
RefusesRows outcome Memory = Unit {0}
