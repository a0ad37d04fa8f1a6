use Rattle.std.proofs.Common.{◌≡◌, ◌++◌, drop}
use Rattle.row_batch.specs.Batches.{patched}
use Rattle.row_batch.proofs.rows.patched.Given as goal

abbrev pub invariant-loop-i : goal.invariant-loop-i
invariant-loop-i l = l.cells.items ++ patched (drop l.i l.row) (drop l.i l.patch) ≡ patched l.row l.patch
