use Rattle.std.proofs.Common.{◌≡◌, [], ◌∷◌, ◌++◌, Some, None, refl, ap, sym, ◌∙◌}
use Rattle.std.specs.List.{slice_get}
use Rattle.row_batch.specs.Changes.{row_at}
use Rattle.table_core.specs.Drafts.{drafted_store, change_at}
use Rattle.table_core.specs.Lookups.{pairs_of}
use Rattle.table_core.proofs.Drafting.{clear_key, clear_more}
use Rattle.table_core.proofs.draft.DraftedBatch.clear_at.Goals as goal

pub change-requires-clause-row : goal.change-requires-clause-row
change-requires-clause-row c =
    let es = c.args.rows.now.entries in
    let entry = rw c.unwrap.ensures at c.get_index.ensures.entry in
    let at : slice_get es c.args.i ≡ Some (c.unwrap.result.0.now, c.unwrap.result.1.now) = sym entry in
    let old = clear_key es c.args.self.now c.args.i (c.unwrap.result.0.now, c.unwrap.result.1.now) c.requires.draft c.requires.begins at in
    let here : row_at (drafted_store (pairs_of es) c.args.self.now).pairs c.in_ok-key.key ≡ Some c.unwrap.result.1.now =
    ap (row_at (drafted_store (pairs_of es) c.args.self.now).pairs) c.in_ok-key.ensures ∙ old in
    rw here refl

pub returns-clause-changes : goal.returns-clause-changes
returns-clause-changes c =
    let es = c.args.rows.now.entries in
    let entry = rw c.unwrap.ensures at c.get_index.ensures.entry in
    let at : slice_get es c.args.i ≡ Some (c.unwrap.result.0.now, c.unwrap.result.1.now) = sym entry in
    let d = c.args.self.now in
    c.in_ok-change.ensures.changes
    ∙ ap (λ k. d.changes.items ++ change_at (pairs_of es) d k None ∷ []) c.in_ok-key.ensures
    ∙ clear_more es d c.args.i (c.unwrap.result.0.now, c.unwrap.result.1.now) c.requires.draft c.requires.begins at
