use Rattle.std.proofs.Common.{List, ◌++◌, map, take}
use Rattle.cell_core.specs.declared.cell.Cell.{Cell}
use Rattle.row_batch.specs.Batches.{key_in}
use Rattle.row_batch.specs.Tables.{keys_of_rows}
use Rattle.hub_core.specs.Rooms.{IsCounted}
use Rattle.hub_core.proofs.room.note_patches.Given as goal

abbrev pub invariant-loop-patch : goal.invariant-loop-patch
invariant-loop-patch g l = (keys : List Cell) → IsCounted (keys_of_rows l.table.store.pairs) l.fn.found keys
    → IsCounted (keys_of_rows l.table.store.pairs) l.found (keys ++ map (key_in l.column) (take l.patch-index l.patches))
