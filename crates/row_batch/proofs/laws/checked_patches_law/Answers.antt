use Rattle.row_batch.proofs.Checked.{checked_patches}
use Rattle.row_batch.proofs.laws.checked_patches_law.Goals as goal

pub returns : goal.returns
returns c = checked_patches
