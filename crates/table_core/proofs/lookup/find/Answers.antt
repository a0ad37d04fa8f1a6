use Rattle.std.proofs.Common.{◌∙◌}
use Rattle.table_core.proofs.Entries.{found}
use Rattle.table_core.proofs.lookup.find.Goals as goal

pub returns : goal.returns
returns g c = c.get.ensures.value ∙ found c.args.key.now c.args.map.now.entries
