use Rattle.std.proofs.Common.{◌≡◌, drop}
use Rattle.row_batch.specs.Checks.{patch_fault}
use Rattle.row_batch.proofs.checking.patch_fault.Given as goal

abbrev pub invariant-loop-i : goal.invariant-loop-i
invariant-loop-i l =
    patch_fault l.keeping l.row l.i (drop l.i l.schema.columns) (drop l.i l.patch) ≡ patch_fault l.keeping l.row 0 l.schema.columns l.patch
