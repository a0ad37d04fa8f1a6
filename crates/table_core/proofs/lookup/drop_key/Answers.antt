use Rattle.std.proofs.Common.{None}
use Rattle.table_core.proofs.Entries.{puts_from, unique}
use Rattle.table_core.proofs.lookup.drop_key.Goals as goal

pub returns-clause-rows : goal.returns-clause-rows
returns-clause-rows c = puts_from _ _ c.args.key.now None c.swap_remove.ensures.updates.0

pub returns-clause-distinct : goal.returns-clause-distinct
returns-clause-distinct c = unique _ c.swap_remove.ensures.unique
