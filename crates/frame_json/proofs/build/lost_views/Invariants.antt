use Rattle.std.proofs.Common.{◌≡◌, map, take}
use Rattle.serde_json.specs.View.{view}
use Rattle.frame_json.specs.Replies.{lost_view}
use Rattle.frame_json.proofs.build.lost_views.Given as goal

abbrev pub invariant-loop-item : goal.invariant-loop-item
invariant-loop-item l = map view l.found.items ≡ map lost_view (take l.item-index l.lost)
