use Rattle.row_batch.specs.Tables.{IsCounted}
use Rattle.cell_tests.proofs.batches.table_after.Given as goal

abbrev pub invariant-loop-step : goal.invariant-loop-step
invariant-loop-step l = IsCounted l.schema.keeping l.table
