use Rattle.std.proofs.Common.{get_or, sym, ◌∙◌, arith}
use Rattle.hub_views.proofs.Refreshes.{one_more, noted_loss, no_loss}
use Rattle.hub_views.proofs.list.refresh_each.Goals as goal
use Rattle.hub_views.proofs.list.refresh_each.Goals.{then-refresh, else-refresh}

pub loop-view-preserved : goal.loop-view-preserved
loop-view-preserved g c =
    let i = c.loop-view.view-index in
    let views = c.loop-view.view-items in
    let d = c.view-item.result in
    let v = get_or views i d in
    let w = c.refresh.new.self in
    let now = c.args.table.now in
    let changes = c.args.changes.now in
    let inv = c.loop-view.invariant in
    let noted = c.args.lost.now.items in
    let before = c.loop-view.lost.items in
    elim c.if-refresh.branch [
      | then-refresh b ↦ record {
        so_far = rw (b.view-items-is, b.lost-is)
            (one_more changes now c.args.version c.args.views.now.items views noted before _ i d w (omega arith) c.refresh.ensures.refreshed
            (b.push_reserved.ensures.items ∙ noted_loss before changes now c.args.version v w (sym c.refresh.ensures.lost ∙ b.if-refresh.true) c.refresh.ensures.refreshed) inv.so_far);
        room = rw b.lost-is (omega arith);
        capacity = rw b.lost-is (b.push_reserved.ensures.capacity ∙ inv.capacity);
      }
      | else-refresh b ↦ record {
        so_far = rw (b.view-items-is, b.lost-is)
            (one_more changes now c.args.version c.args.views.now.items views noted before before i d w (omega arith) c.refresh.ensures.refreshed
            (no_loss before v w (sym c.refresh.ensures.lost ∙ b.if-refresh.false)) inv.so_far);
        room = rw b.lost-is (omega arith);
        capacity = rw b.lost-is inv.capacity;
      }
    ]
