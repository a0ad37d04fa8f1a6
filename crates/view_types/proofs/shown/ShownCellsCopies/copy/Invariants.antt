use Rattle.std.proofs.Common.{◌≡◌, take}
use Rattle.view_types.proofs.shown.ShownCellsCopies.copy.Given as goal

abbrev pub invariant-loop-column : goal.invariant-loop-column
invariant-loop-column l = l.cells.items ≡ take l.column-index l.column-items
