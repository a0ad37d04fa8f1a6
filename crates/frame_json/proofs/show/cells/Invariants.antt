use Rattle.std.proofs.Common.{◌≡◌, take}
use Rattle.serde_json.specs.Data.{no_members}
use Rattle.serde_json.specs.View.{members_view}
use Rattle.frame_json.specs.Replies.{with_cells}
use Rattle.frame_json.proofs.show.cells.Given as goal

abbrev pub invariant-loop-column : goal.invariant-loop-column
invariant-loop-column l = members_view l.found.entries ≡ with_cells no_members (take l.column-index l.column-items)
