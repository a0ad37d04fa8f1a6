use Rattle.std.proofs.Common.{◌<◌, length, arith}
use Rattle.flat_show.proofs.PlaceLaws.{placed_more}
use Rattle.flat_show.proofs.flat.placed_rows.Goals as goal

pub loop-row-preserved : goal.loop-row-preserved
loop-row-preserved c =
    let within : c.loop-row.row-index < length c.args.rows.now = omega arith in
    placed_more c.args.schema.now.columns c.args.plan.now c.args.rows.now c.loop-row.row-index c.row-item.result c.loop-row.by_place.entries c.put_row.new.by_place.entries
    c.requires within c.row-item.is c.loop-row.invariant c.in_ok-put_row.ensures
