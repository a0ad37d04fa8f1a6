use Rattle.std.proofs.Common.{◌∙◌}
use Rattle.hub_core.proofs.Rooms.{row_found}
use Rattle.hub_core.proofs.room.has_row.Goals as goal

pub returns : goal.returns
returns g c = c.is_some.ensures ∙ row_found c.args.key.now c.args.table.now.store.pairs c.row.result c.row.ensures.row
