use Rattle.std.proofs.Common.{◌≡◌, ◌+◌, List, ◌∷◌, drop, ap, sym, ◌∙◌}
use Rattle.std.proofs.lemmas.List.{drop_more}
use Rattle.row_batch.specs.declared.batch.PatchCell.{PatchCell}
use Rattle.table_core.specs.Lookups.{pairs_of}
use Rattle.table_core.proofs.Drafting.{steps_turn, numbers_turn}
use Rattle.table_core.proofs.draft.DraftedBatch.put_patches.Goals as goal

pub loop-patch-preserved : goal.loop-patch-preserved
loop-patch-preserved c =
    let rows = pairs_of c.args.rows.now.entries in
    let i = c.loop-patch.patch-index in
    let patches = c.args.patches.now in
    let patch = c.as_slice.result.now in
    let item : c.as_slice.result.now ≡ c.patch-item.result = c.as_slice.ensures in
    let split : drop i patches ≡ patch ∷ drop (i + 1) patches =
    drop_more patches i c.patch-item.result c.loop-patch-test.true ∙ ap (λ (p : List PatchCell). p ∷ drop (i + 1) patches) (sym c.patch-item.is ∙ sym item) in
    let after = c.in_ok-put_patch.ensures in
    record {
      draft = after.draft;
      changes = steps_turn rows c.loop-patch.self c.put_patch.new.self c.args.keeping c.args.width patch (drop (i + 1) patches) (drop i patches) _ split after.changes after.number c.loop-patch.invariant.changes;
      number = numbers_turn rows c.loop-patch.self c.put_patch.new.self c.args.keeping c.args.width patch (drop (i + 1) patches) (drop i patches) _ split after.changes after.number c.loop-patch.invariant.number;
    }
