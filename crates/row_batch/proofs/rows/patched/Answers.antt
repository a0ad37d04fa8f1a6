use Rattle.std.proofs.Common.{append_assoc, arith}
use Rattle.row_batch.proofs.Patching.{patched-drop}
use Rattle.row_batch.proofs.rows.patched.Goals as goal

pub loop-i-preserved : goal.loop-i-preserved
loop-i-preserved c = grind (arith, append_assoc, patched-drop)
