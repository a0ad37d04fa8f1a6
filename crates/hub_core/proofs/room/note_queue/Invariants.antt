use Rattle.std.proofs.Common.{List, ◌++◌, take}
use Rattle.std.specs.List.{flat_map}
use Rattle.cell_core.specs.declared.cell.Cell.{Cell}
use Rattle.row_batch.specs.Tables.{keys_of_rows}
use Rattle.hub_spec.specs.Room.{keys_put}
use Rattle.hub_core.specs.Rooms.{IsCounted}
use Rattle.hub_core.proofs.room.note_queue.Given as goal

abbrev pub invariant-loop-i : goal.invariant-loop-i
invariant-loop-i g l = (keys : List Cell) → IsCounted (keys_of_rows l.table.store.pairs) l.fn.found keys
    → IsCounted (keys_of_rows l.table.store.pairs) l.found (keys ++ flat_map (keys_put l.column) (take l.i l.queue.waiting))
