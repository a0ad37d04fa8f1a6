use Rattle.std.proofs.Common.{◌≡◌, ◌++◌, drop, fold}
use Rattle.row_batch.specs.Steps.{after_step, step_changes}
use Rattle.table_core.specs.Drafts.{drafted_store, IsDraftFor}
use Rattle.table_core.specs.Lookups.{pairs_of}
use Rattle.table_core.proofs.draft.DraftedBatch.put_patches.Given as goal

abbrev pub invariant-loop-patch : goal.invariant-loop-patch
invariant-loop-patch l =
    let rows = pairs_of l.rows.entries in
    let left = drop l.patch-index l.patches in
    record {
      draft : IsDraftFor rows l.self;
      changes : l.self.changes.items ++ step_changes l.keeping l.width (drafted_store rows l.self) left
          ≡ l.fn.self.changes.items ++ step_changes l.keeping l.width (drafted_store rows l.fn.self) l.patches;
      number : (fold (after_step l.keeping l.width) (drafted_store rows l.self) left).number
          ≡ (fold (after_step l.keeping l.width) (drafted_store rows l.fn.self) l.patches).number;
    }
