use Rattle.row_batch.proofs.Kept.{batch_keeps_table, table_reordered}
use Rattle.row_batch.proofs.laws.table_law.Goals as goal

pub returns-clause-kept : goal.returns-clause-kept
returns-clause-kept c = batch_keeps_table

pub returns-clause-reordered : goal.returns-clause-reordered
returns-clause-reordered c = table_reordered
