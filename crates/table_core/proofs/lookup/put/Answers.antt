use Rattle.std.proofs.Common.{Some}
use Rattle.table_core.proofs.Entries.{puts_from}
use Rattle.table_core.proofs.lookup.put.Goals as goal

pub returns : goal.returns
returns g c = puts_from _ _ c.args.key (Some c.args.value) c.in_ok-insert.ensures.updates.0
