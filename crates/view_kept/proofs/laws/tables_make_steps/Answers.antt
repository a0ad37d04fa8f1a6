use Rattle.view_kept.proofs.StepLaws.{batch_is_step, is_of_table}
use Rattle.view_kept.proofs.laws.tables_make_steps.Goals as goal

pub returns : goal.returns
returns c = record { batches = batch_is_step; tables = is_of_table }
