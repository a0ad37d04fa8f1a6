use Rattle.std.proofs.Common.{◌≡◌, [], ◌∷◌, ◌++◌, refl, ap, ◌∙◌}
use Rattle.row_batch.specs.Changes.{row_at}
use Rattle.row_batch.specs.Steps.{row_of_step}
use Rattle.table_core.specs.declared.draft.DraftedBatch.{DraftedBatch}
use Rattle.table_core.specs.Drafts.{drafted_store}
use Rattle.table_core.specs.Lookups.{pairs_of}
use Rattle.table_core.proofs.Drafting.{renumbered, step_change}
use Rattle.table_core.proofs.draft.DraftedBatch.put_patch.Goals as goal

pub returns-clause-draft : goal.returns-clause-draft
returns-clause-draft c =
    let d = c.change.new.self in
    let e : DraftedBatch = record { changes = d.changes; finals = d.finals; size = d.size; number = c.in_ok-number.number } in
    renumbered (pairs_of c.args.rows.now.entries) d e c.in_ok-change.ensures.draft refl refl refl c.in_ok-number.ensures.counted

pub returns-clause-changes : goal.returns-clause-changes
returns-clause-changes c =
    let rows = pairs_of c.args.rows.now.entries in
    let d = c.args.self.now in
    let row : c.in_ok-row.row ≡ row_of_step c.args.keeping c.args.width c.args.patch.now (row_at (drafted_store rows d).pairs c.in_ok-key.key) =
    c.in_ok-row.ensures ∙ ap (row_of_step c.args.keeping c.args.width c.args.patch.now) c.current.ensures in
    c.in_ok-change.ensures.changes
    ∙ ap (λ change. d.changes.items ++ change ∷ []) (step_change rows d c.args.keeping c.args.width c.args.patch.now c.in_ok-key.key c.in_ok-row.row c.in_ok-key.ensures row)
