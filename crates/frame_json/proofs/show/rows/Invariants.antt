use Rattle.std.proofs.Common.{◌≡◌, map, take}
use Rattle.serde_json.specs.View.{view}
use Rattle.frame_json.specs.Replies.{row_data}
use Rattle.frame_json.proofs.show.rows.Given as goal

abbrev pub invariant-loop-item : goal.invariant-loop-item
invariant-loop-item l = map view l.found.items ≡ map row_data (take l.item-index l.rows)
