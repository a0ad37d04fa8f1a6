use Rattle.std.proofs.Common.{◌++◌, ap, ◌∙◌}
use Rattle.row_batch.specs.Batches.{Store, empty_store}
use Rattle.row_batch.specs.Steps.{step_changes}
use Rattle.table_core.specs.Drafts.{drafted_store}
use Rattle.table_core.specs.Lookups.{pairs_of}
use Rattle.table_core.proofs.Preparing.{number_after, cleared_store, update_number, replace_number, replace_changes}
use Rattle.table_core.proofs.draft.DraftedBatch.of.Goals as goal

pub returns-in_ok-put_patches-in-Update-clause-number :
    goal.returns-in_ok-put_patches-in-Update-clause-number
returns-in_ok-put_patches-in-Update-clause-number c =
    let rows = pairs_of c.args.rows.now.entries in
    let s : Store = record { pairs = rows; number = c.args.number } in
    let keeping = c.keeping-keeping.result in
    let width = c.width-width.result in
    c.in_ok-put_patches-in-Update.ensures.number
    ∙ number_after keeping width (drafted_store rows c.new-draft.result) s c.as_slice.result.now c.new-draft.ensures.number
    ∙ update_number c.args.schema.now s c.args.batch.now keeping width c.as_slice.result.now c.in-Update.patches c.keeping-keeping.ensures.keeping c.width-width.ensures.width
    c.as_slice.ensures c.in-Update.is

pub returns-in_ok-put_patches-in-Replace-clause-changes :
    goal.returns-in_ok-put_patches-in-Replace-clause-changes
returns-in_ok-put_patches-in-Replace-clause-changes c =
    let rows = pairs_of c.args.rows.now.entries in
    let s : Store = record { pairs = rows; number = c.args.number } in
    let keeping = c.keeping-keeping.result in
    let width = c.width-width.result in
    let ps = c.as_slice-in-Replace.result.now in
    let d = c.clear-in-Replace.new.self in
    let cleared = c.in_ok-clear-in-Replace.ensures in
    let none = cleared_store rows d cleared.draft cleared.changes cleared.number in
    c.in_ok-put_patches-in-Replace.ensures.changes
    ∙ ap (λ x. d.changes.items ++ step_changes keeping width x ps) none
    ∙ ap (λ cs. cs ++ step_changes keeping width empty_store ps) cleared.changes
    ∙ replace_changes c.args.schema.now s c.args.batch.now keeping width ps c.in-Replace.patches c.keeping-keeping.ensures.keeping c.width-width.ensures.width
    c.as_slice-in-Replace.ensures c.in-Replace.is

pub returns-in_ok-put_patches-in-Replace-clause-number :
    goal.returns-in_ok-put_patches-in-Replace-clause-number
returns-in_ok-put_patches-in-Replace-clause-number c =
    let rows = pairs_of c.args.rows.now.entries in
    let s : Store = record { pairs = rows; number = c.args.number } in
    let keeping = c.keeping-keeping.result in
    let width = c.width-width.result in
    let ps = c.as_slice-in-Replace.result.now in
    let d = c.clear-in-Replace.new.self in
    c.in_ok-put_patches-in-Replace.ensures.number
    ∙ number_after keeping width (drafted_store rows d) empty_store ps c.in_ok-clear-in-Replace.ensures.number
    ∙ replace_number c.args.schema.now s c.args.batch.now keeping width ps c.in-Replace.patches c.keeping-keeping.ensures.keeping c.width-width.ensures.width
    c.as_slice-in-Replace.ensures c.in-Replace.is
