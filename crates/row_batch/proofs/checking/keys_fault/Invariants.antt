use Rattle.std.proofs.Common.{◌≡◌, Some, drop}
use Rattle.row_batch.specs.Checks.{keys_fault}
use Rattle.row_batch.proofs.checking.keys_fault.Given as goal

abbrev pub invariant-loop-row : goal.invariant-loop-row
invariant-loop-row l = keys_fault (Some l.kind) l.column l.row (drop l.row l.keys) ≡ keys_fault (Some l.kind) l.column 0 l.keys
