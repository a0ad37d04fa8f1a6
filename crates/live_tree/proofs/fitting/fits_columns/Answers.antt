use Rattle.std.proofs.Common.{◌≡◌, ◌<◌, length, None, rules}
use Rattle.row_batch.specs.Checks.{cell_fault}
use Rattle.live_tree.proofs.RowFits.{fits_next}
use Rattle.live_tree.proofs.fitting.fits_columns.Goals as goal

pub loop-i-preserved : goal.loop-i-preserved
loop-i-preserved c =
    let in_row : c.loop-i.i < length c.args.row.now = search rules in
    let one : cell_fault c.index-columns-i.result.kind c.index-row-i.result ≡ None = search rules in
    fits_next c.args.columns.now c.args.row.now c.loop-i.i c.index-columns-i.result c.index-row-i.result c.loop-i-test.true in_row c.index-columns-i.is c.index-row-i.is c.loop-i.invariant one
