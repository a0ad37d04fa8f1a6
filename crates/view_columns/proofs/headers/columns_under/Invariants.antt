use Rattle.std.proofs.Common.{◌≡◌, map, take}
use Rattle.view_spec.specs.Cells.{head_at}
use Rattle.view_columns.proofs.headers.columns_under.Given as goal

abbrev pub invariant-loop-column : goal.invariant-loop-column
invariant-loop-column l = l.header.items ≡ map (head_at l.columns l.plan l.split) (take l.column-index l.shown)
