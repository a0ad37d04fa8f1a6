use Rattle.std.proofs.Common.{◌≡◌, ap, sym, subst, ◌∙◌}
use Rattle.plain_data.specs.Distinct.{AreDistinct}
use Rattle.cell_core.specs.Schemas.{SchemaData}
use Rattle.row_batch.specs.Batches.{Store, put_batch}
use Rattle.row_batch.specs.Tables.{IsTable, IsReordered}
use Rattle.row_batch.proofs.Kept.{table_reordered}
use Rattle.table_core.specs.Lookups.{pairs_of}
use Rattle.table_core.specs.Tables.{TableData, PreparedData}
use Rattle.table_core.proofs.Entries.{keys_of-pairs}
use Rattle.table_core.proofs.Preparing.{applied}
use Rattle.table_core.proofs.table.Table.apply.Goals as goal

pub invariant_of-self : goal.invariant_of-self
invariant_of-self c =
    let p = c.prepared.inside in
    let t = p.table.value in
    let now : Store = record { pairs = pairs_of c.settle.new.rows.entries; number = p.number } in
    let same : t ≡ c.args.prepared.table = ap (λ (v : PreparedData). v.table) c.prepared.view_is in
    let was = ap (λ (v : TableData). v.store.pairs) same ∙ sym (ap (λ (s : Store). s.pairs) c.requires.still.store) ∙ sym (ap (λ (v : TableData). v.store.pairs) c.self.view_is) in
    let schema : t.schema ≡ c.self.inside.schema =
    ap (λ (v : TableData). v.schema) same ∙ sym c.requires.still.schema ∙ sym (ap (λ (v : TableData). v.schema) c.self.view_is) in
    let made = applied t p.batch.value p.changes.items p.finals.entries p.number c.self.inside.rows.entries c.settle.new.rows.entries c.prepared.invariant was c.settle.ensures.distinct c.settle.ensures.rows in
    subst (λ s. IsTable s now) schema (table_reordered t.schema (put_batch t.schema t.store p.batch.value) now made c.prepared.invariant.kept)

pub returns-clause-rows : goal.returns-clause-rows
returns-clause-rows c =
    let p = c.prepared.inside in
    let t = p.table.value in
    let self = c.args.self.now in
    let given = c.args.prepared in
    let now : Store = record { pairs = pairs_of c.settle.new.rows.entries; number = p.number } in
    let same : t ≡ given.table = ap (λ (v : PreparedData). v.table) c.prepared.view_is in
    let batch : p.batch.value ≡ given.batch = ap (λ (v : PreparedData). v.batch) c.prepared.view_is in
    let was = ap (λ (v : TableData). v.store.pairs) same ∙ sym (ap (λ (s : Store). s.pairs) c.requires.still.store) ∙ sym (ap (λ (v : TableData). v.store.pairs) c.self.view_is) in
    let made = applied t p.batch.value p.changes.items p.finals.entries p.number c.self.inside.rows.entries c.settle.new.rows.entries c.prepared.invariant was c.settle.ensures.distinct c.settle.ensures.rows in
    let after : put_batch t.schema t.store p.batch.value ≡ put_batch self.schema self.store given.batch =
    ap (λ (v : TableData). put_batch v.schema v.store p.batch.value) same ∙ ap (put_batch given.table.schema given.table.store) batch
    ∙ sym (ap (λ (s : SchemaData). put_batch s given.table.store given.batch) c.requires.still.schema)
    ∙ sym (ap (λ (s : Store). put_batch self.schema s given.batch) c.requires.still.store) in
    subst (λ s. IsReordered s now) after made

pub settle-requires-clause-distinct : goal.settle-requires-clause-distinct
settle-requires-clause-distinct c = subst AreDistinct (keys_of-pairs c.self.inside.rows.entries) c.self.invariant.distinct
