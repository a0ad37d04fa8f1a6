use Rattle.std.proofs.Common.{◌≤◌, sym, subst}
use Rattle.row_batch.specs.Changes.{max_rows}
use Rattle.table_core.specs.declared.draft.DraftedBatch.{DraftedBatch}
use Rattle.table_core.proofs.Drafting.{first_draft}
use Rattle.table_core.proofs.draft.DraftedBatch.new.Goals as goal

pub returns-clause-draft : goal.returns-clause-draft
returns-clause-draft c =
    let few = subst (λ n. n ≤ max_rows) (sym c.size.ensures.size) c.requires.few in
    let d : DraftedBatch = record { changes = c.new.result; finals = c.new-2.result; size = c.size.result; number = c.args.number } in
    first_draft c.args.rows.now.entries d c.size.ensures.distinct c.new.ensures.items c.new-2.ensures.empty c.size.ensures.size few c.requires.counted
