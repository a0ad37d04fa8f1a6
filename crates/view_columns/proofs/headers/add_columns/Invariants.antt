use Rattle.std.proofs.Common.{◌≡◌, ◌++◌, take}
use Rattle.view_columns.proofs.headers.add_columns.Given as goal

abbrev pub invariant-loop-column : goal.invariant-loop-column
invariant-loop-column l = l.header.items ≡ l.initial.header.items ++ take l.column-index l.columns
