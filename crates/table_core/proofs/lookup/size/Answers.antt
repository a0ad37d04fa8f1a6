use Rattle.table_core.proofs.Entries.{unique}
use Rattle.table_core.proofs.lookup.size.Goals as goal

pub returns-clause-distinct : goal.returns-clause-distinct
returns-clause-distinct g c = unique _ c.len.ensures.unique
