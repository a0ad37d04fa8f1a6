use Rattle.std.proofs.Common.{◌≡◌, drop}
use Rattle.row_batch.specs.Checks.{patches_fault}
use Rattle.row_batch.proofs.checking.patches_fault.Given as goal

abbrev pub invariant-loop-row : goal.invariant-loop-row
invariant-loop-row l = patches_fault l.schema l.row (drop l.row l.patches) ≡ patches_fault l.schema 0 l.patches
