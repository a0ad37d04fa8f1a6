use Rattle.row_batch.specs.Tables.{keys_of_rows}
use Rattle.hub_core.proofs.Rooms.{none_counted}
use Rattle.hub_core.proofs.engine.Engine.too_many_keys.Goals as goal

pub loop-port-init : goal.loop-port-init
loop-port-init g c = none_counted (keys_of_rows c.args.self.now.table.store.pairs) c.new-found.result c.len-rows.ensures.table.distinct c.new-found.ensures.empty
