use Rattle.std.proofs.Common.{◌≡◌, sym}
use Rattle.row_batch.specs.Batches.{patched}
use Rattle.row_batch.proofs.Patching.{put_at-read, put_at-None}
use Rattle.row_batch.proofs.rows.put_at.Goals as goal

pub returns-in_ok-row-in-Some : goal.returns-in_ok-row-in-Some
returns-in_ok-row-in-Some c =
    let at = rw c.as_slice.ensures.value at (sym c.in-Some.ensures.place) in
    let new : c.in_ok-row-in-Some.row ≡ patched c.index_mut-pair.result.now.row c.args.patch.now = cc (c.in_ok-row-in-Some.ensures, c.as_slice-in-Some.ensures) in
    put_at-read c.args.width c.args.key c.args.patch.now c.args.pairs.now.items c.in-Some.place c.index_mut-pair.result.now c.in_ok-row-in-Some.row at c.index_mut-pair.ensures.value new

pub returns-in_ok-push-in-None : goal.returns-in_ok-push-in-None
returns-in_ok-push-in-None c =
    let at = rw c.as_slice.ensures.value at (sym c.in-None.ensures.place) in
    let put = put_at-None c.args.width c.args.key c.args.patch.now c.args.pairs.now.items at in
    cc (put, c.in_ok-push-in-None.ensures.items, c.in_ok-row-in-None.ensures)
