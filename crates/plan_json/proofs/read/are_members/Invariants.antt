use Rattle.std.proofs.Common.{◌≡◌}
use Rattle.plan_json.specs.Members.{members_data}
use Rattle.plan_json.specs.Reading.{are_members}
use Rattle.plan_json.proofs.read.are_members.Given as goal

abbrev pub invariant-loop-name : goal.invariant-loop-name
invariant-loop-name l = are_members (members_data l.name-iterator) ≡ are_members (members_data l.members.entries)
