use Rattle.std.proofs.Common.{◌≡◌}
use Rattle.serde_json.specs.View.{members_view}
use Rattle.frame_json.specs.Requests.{all_belong}
use Rattle.frame_json.proofs.read.has_all.Given as goal

abbrev pub invariant-loop-name : goal.invariant-loop-name
invariant-loop-name l = all_belong l.scripted l.op (members_view l.name-iterator) ≡ all_belong l.scripted l.op (members_view l.members.entries)
