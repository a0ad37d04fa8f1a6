use Rattle.std.proofs.Common.{◌≡◌}
use Rattle.cell_core.specs.RawData.{get_raw}
use Rattle.plan_json.specs.Members.{members_data}
use Rattle.plan_json.proofs.read.member.Given as goal

abbrev pub invariant-loop-other : goal.invariant-loop-other
invariant-loop-other l = get_raw l.name (members_data l.other-iterator) ≡ get_raw l.name (members_data l.members.entries)
