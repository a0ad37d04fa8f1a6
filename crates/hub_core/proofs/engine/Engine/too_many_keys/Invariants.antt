use Rattle.std.proofs.Common.{take}
use Rattle.std.specs.List.{flat_map}
use Rattle.row_batch.specs.Tables.{keys_of_rows}
use Rattle.hub_ports.specs.Ports.{waiting_on}
use Rattle.hub_spec.specs.Room.{keys_put}
use Rattle.hub_core.specs.Rooms.{IsCounted}
use Rattle.hub_core.proofs.engine.Engine.too_many_keys.Given as goal

abbrev pub invariant-loop-port : goal.invariant-loop-port
invariant-loop-port g l = IsCounted (keys_of_rows l.self.table.store.pairs) l.found (flat_map (keys_put l.column) (waiting_on (take l.port-index l.self.ports.live)))
