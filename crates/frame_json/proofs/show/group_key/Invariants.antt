use Rattle.std.proofs.Common.{◌≡◌, ◌∷◌, map, take, codes}
use Rattle.serde_json.specs.Data.{string}
use Rattle.serde_json.specs.View.{view}
use Rattle.frame_json.specs.Replies.{part_data}
use Rattle.frame_json.proofs.show.group_key.Given as goal

abbrev pub invariant-loop-cell : goal.invariant-loop-cell
invariant-loop-cell l = map view l.found.items ≡ string (codes "g") ∷ map part_data (take l.cell-index l.path)
