use Rattle.std.proofs.Common.{◌≡◌, map, take}
use Rattle.serde_json.specs.View.{view}
use Rattle.frame_json.specs.Replies.{words_data}
use Rattle.frame_json.proofs.build.column_list.Given as goal

abbrev pub invariant-loop-column : goal.invariant-loop-column
invariant-loop-column l = map view l.found.items ≡ map words_data (take l.column-index l.columns)
