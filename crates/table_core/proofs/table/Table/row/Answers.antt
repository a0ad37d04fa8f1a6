use Rattle.std.proofs.Common.{ap, sym, ◌∙◌}
use Rattle.row_batch.specs.Changes.{row_at}
use Rattle.table_core.specs.Tables.{TableData}
use Rattle.table_core.proofs.Entries.{row_at-pairs}
use Rattle.table_core.proofs.table.Table.row.Goals as goal

pub returns-clause-row : goal.returns-clause-row
returns-clause-row g c =
    c.find.ensures ∙ sym (row_at-pairs c.self.inside.rows.entries c.args.key.now)
    ∙ ap (λ (t : TableData). row_at t.store.pairs c.args.key.now) c.self.view_is
