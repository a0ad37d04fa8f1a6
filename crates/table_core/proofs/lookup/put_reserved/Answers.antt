use Rattle.std.proofs.Common.{Some}
use Rattle.table_core.proofs.Entries.{puts_from, unique}
use Rattle.table_core.proofs.lookup.put_reserved.Goals as goal

pub returns-clause-rows : goal.returns-clause-rows
returns-clause-rows c =
    let updates = rw c.unwrap.ensures at c.insert.ensures.updates in
    puts_from _ _ c.args.key (Some c.args.row) updates.0

pub returns-clause-distinct : goal.returns-clause-distinct
returns-clause-distinct c = unique _ c.insert.ensures.unique
