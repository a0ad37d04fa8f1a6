use Rattle.std.proofs.Common.{refl}
use Rattle.flat_live.specs.FlatRows.{FlatRow}
use Rattle.flat_live.proofs.Options.{ok_map}
use Rattle.flat_live.proofs.RowCounts.{put_counted, put_noted}
use Rattle.flat_live.proofs.rows.put_counted.Goals as goal

pub returns-clause-counts : goal.returns-clause-counts
returns-clause-counts c = λ h.
    let row : FlatRow = (c.args.place, record { key = c.args.key; value = c.args.value }) in
    ok_map c.put.result (λ put. put_counted c.args.list.now c.put.new.self _ row c.count_up.new.counts.entries put (c.in_ok-count_up.ensures.counts c.args.list.now row refl h)) c.put.ensures.list

pub returns-clause-splits : goal.returns-clause-splits
returns-clause-splits c = λ h.
    let row : FlatRow = (c.args.place, record { key = c.args.key; value = c.args.value }) in
    ok_map c.put.result (λ put. put_noted c.args.splits_moved.now c.count_up.new.moved c.args.list.now c.put.new.self _ row put (c.in_ok-count_up.ensures.moved c.args.list.now row refl h)) c.put.ensures.list
