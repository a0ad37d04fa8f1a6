use Rattle.std.proofs.Common.{◌≡◌, map, take}
use Rattle.serde_json.specs.View.{view}
use Rattle.frame_json.specs.Replies.{put_data}
use Rattle.frame_json.proofs.show.placed_rows.Given as goal

abbrev pub invariant-loop-item : goal.invariant-loop-item
invariant-loop-item l = map view l.found.items ≡ map put_data (take l.item-index l.placed)
