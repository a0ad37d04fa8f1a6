use Rattle.std.proofs.Common.{take}
use Rattle.row_batch.specs.Changes.{FitsColumns}
use Rattle.live_tree.proofs.fitting.fits_columns.Given as goal

abbrev pub invariant-loop-i : goal.invariant-loop-i
invariant-loop-i l = FitsColumns (take l.i l.columns) (take l.i l.row)
