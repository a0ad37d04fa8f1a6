use Rattle.std.proofs.Common.{List, subst, sym}
use Rattle.row_batch.specs.declared.batch.Pair.{Pair}
use Rattle.row_batch.specs.Tables.{IsCounted}
use Rattle.row_batch.proofs.Keys.{empty_is_counted}
use Rattle.row_batch.proofs.table.PlainTable.new.Goals as goal

pub returns-clause-counted : goal.returns-clause-counted
returns-clause-counted c =
    λ keeping. let P : List Pair → Type 0 = λ pairs. IsCounted keeping (record { pairs = pairs; number = 0 }) in subst P (sym c.new.ensures) (empty_is_counted keeping)
