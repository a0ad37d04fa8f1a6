use Rattle.std.proofs.Common.{◌≡◌, [], take, drop}
use Rattle.plain_data.specs.Faults.{first_fault}
use Rattle.cell_core.specs.Schemas.{column_faults}
use Rattle.cell_core.proofs.schema.bad_column.Given as goal

abbrev pub invariant-loop-i : goal.invariant-loop-i
invariant-loop-i l = first_fault (column_faults (take l.i l.words) l.i (drop l.i l.words)) ≡ first_fault (column_faults [] 0 l.words)
