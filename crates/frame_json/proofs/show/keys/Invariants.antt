use Rattle.std.proofs.Common.{◌≡◌, map, take}
use Rattle.serde_json.specs.View.{view}
use Rattle.frame_json.specs.Replies.{key_data}
use Rattle.frame_json.proofs.show.keys.Given as goal

abbrev pub invariant-loop-item : goal.invariant-loop-item
invariant-loop-item l = map view l.found.items ≡ map key_data (take l.item-index l.keys)
