use Rattle.std.proofs.Common.{◌≡◌, ◌++◌, drop}
use Rattle.row_batch.specs.Steps.{removals}
use Rattle.table_core.specs.Drafts.{drafted_store, IsDraftFor}
use Rattle.table_core.specs.Lookups.{pairs_of}
use Rattle.table_core.proofs.draft.DraftedBatch.remove_keys.Given as goal

abbrev pub invariant-loop-key : goal.invariant-loop-key
invariant-loop-key l =
    let rows = pairs_of l.rows.entries in
    record {
      draft : IsDraftFor rows l.self;
      changes : l.self.changes.items ++ removals (drafted_store rows l.self).pairs (drop l.key-index l.keys)
          ≡ l.fn.self.changes.items ++ removals (drafted_store rows l.fn.self).pairs l.keys;
      number : l.self.number ≡ l.fn.self.number;
    }
