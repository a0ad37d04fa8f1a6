use Rattle.std.proofs.Common.{◌≡◌, take}
use Rattle.plan_json.specs.Members.{members_data}
use Rattle.plan_json.proofs.Members.{text_members}
use Rattle.plan_json.proofs.write.raw_texts.Given as goal

abbrev pub invariant-loop-named : goal.invariant-loop-named
invariant-loop-named l = members_data l.members.entries ≡ text_members (take l.named-index l.named-items)
