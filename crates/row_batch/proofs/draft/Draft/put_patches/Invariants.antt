use Rattle.std.proofs.Common.{◌≡◌, ◌+◌, ◌≤◌, take, fold}
use Rattle.row_batch.specs.Batches.{put_patch}
use Rattle.row_batch.proofs.draft.Draft.put_patches.Given as goal

abbrev pub invariant-loop-patch : goal.invariant-loop-patch
invariant-loop-patch l =
    (l.self ≡ fold (put_patch l.keeping l.width) l.fn.self (take l.patch-index l.patches)) × (l.self.number ≤ l.fn.self.number + l.patch-index)
