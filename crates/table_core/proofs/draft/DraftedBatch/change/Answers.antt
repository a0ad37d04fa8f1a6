use Rattle.std.proofs.Common.{◌≡◌, ◌+◌, List, [], ◌∷◌, ◌++◌, Option, Some, is_some, refl, ap, sym, subst, ◌∙◌}
use Rattle.cell_core.specs.declared.cell.Cell.{Cell}
use Rattle.row_batch.specs.declared.change.RowChange.{RowChange}
use Rattle.row_batch.specs.Changes.{row_at}
use Rattle.table_core.specs.declared.draft.DraftedBatch.{DraftedBatch}
use Rattle.table_core.specs.Drafts.{drafted_store}
use Rattle.table_core.specs.Lookups.{pairs_of, ChangesKey, one_if}
use Rattle.table_core.proofs.Drafting.{next_draft, had_row}
use Rattle.table_core.proofs.draft.DraftedBatch.change.Goals as goal

pub size_after-requires-clause-some : goal.size_after-requires-clause-some
size_after-requires-clause-some c =
    let rows = pairs_of c.args.rows.now.entries in
    let had : c.is_some.result ≡ is_some (row_at (drafted_store rows c.args.self.now).pairs c.args.key) = c.is_some.ensures ∙ ap is_some (c.in_ok-old.ensures ∙ c.current.ensures) in
    rw had (had_row rows c.args.self.now c.args.key c.requires.draft)

pub returns-clause-draft : goal.returns-clause-draft
returns-clause-draft c =
    let rows = pairs_of c.args.rows.now.entries in
    let d = c.args.self.now in
    let e : DraftedBatch = record { changes = c.push.new.self; finals = c.put.new.map; size = c.in_ok-size.size; number = d.number } in
    let stood : c.in_ok-old.old ≡ row_at (drafted_store rows d).pairs c.args.key = c.in_ok-old.ensures ∙ c.current.ensures in
    let had : c.is_some.result ≡ is_some (row_at (drafted_store rows d).pairs c.args.key) = c.is_some.ensures ∙ ap is_some stood in
    let change : Option (List Cell) → RowChange = λ old. record { key = c.args.key; old = old; new = c.args.new } in
    let changes = c.in_ok-push.ensures.items ∙ ap (λ old. d.changes.items ++ change old ∷ []) stood in
    let row : c.in_ok-row.row ≡ c.args.new = c.in_ok-row.ensures ∙ c.as_ref.ensures.value in
    let P : Cell → Option (List Cell) → Type 0 = λ k r. ChangesKey d.finals.entries k (Some r) c.put.new.map.entries in
    let puts = subst (λ k. P k c.args.new) c.in_ok-copy.ensures (subst (λ r. P c.in_ok-copy.field-0 r) row c.in_ok-put.ensures) in
    let size = sym (ap (λ b. c.in_ok-size.size + one_if b) had) ∙ c.in_ok-size.ensures.size ∙ ap (λ b. d.size + one_if b) c.is_some-2.ensures in
    next_draft rows d e c.args.key c.args.new c.requires.draft c.requires.row changes puts size c.in_ok-size.ensures.few refl
