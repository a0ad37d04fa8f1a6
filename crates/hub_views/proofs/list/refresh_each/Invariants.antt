use Rattle.std.proofs.Common.{◌≡◌, ◌≤◌, ◌+◌}
use Rattle.std.specs.Vec.{vec_len, vec_capacity}
use Rattle.hub_views.proofs.Refreshes.{IsSoFar}
use Rattle.hub_views.proofs.list.refresh_each.Given as goal

abbrev pub invariant-loop-view : goal.invariant-loop-view
invariant-loop-view g l = record {
  so_far : IsSoFar l.changes l.table l.version l.fn.views.items l.view-items l.fn.lost.items l.lost.items l.view-index;
  room : vec_len l.lost ≤ vec_len l.fn.lost + l.view-index;
  capacity : vec_capacity l.lost ≡ vec_capacity l.fn.lost;
}
