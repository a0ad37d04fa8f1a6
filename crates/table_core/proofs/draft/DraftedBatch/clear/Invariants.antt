use Rattle.std.proofs.Common.{◌≡◌, take}
use Rattle.row_batch.specs.Steps.{clearing}
use Rattle.table_core.specs.Drafts.{IsDraftFor}
use Rattle.table_core.specs.Lookups.{pairs_of}
use Rattle.table_core.proofs.draft.DraftedBatch.clear.Given as goal

abbrev pub invariant-loop-i : goal.invariant-loop-i
invariant-loop-i l =
    let rows = pairs_of l.rows.entries in
    record { draft : IsDraftFor rows l.self; changes : l.self.changes.items ≡ clearing (take l.i rows) }
