use Rattle.std.proofs.Common.{◌≡◌, replicate}
use Rattle.cell_core.specs.declared.cell.Cell.TheVariants as cell
use Rattle.row_batch.proofs.rows.nulls.Given as goal

abbrev pub invariant-loop : goal.invariant-loop
invariant-loop l = l.row.items ≡ replicate l.counter cell.Null
