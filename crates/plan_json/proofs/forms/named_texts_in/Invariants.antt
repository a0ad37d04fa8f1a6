use Rattle.std.proofs.Common.{◌≡◌, ◌++◌, map}
use Rattle.std.specs.Map.{keys_of}
use Rattle.plan_json.specs.Members.{members_data}
use Rattle.plan_json.specs.Reading.{texts_in}
use Rattle.plan_json.proofs.Fronts.{with_front}
use Rattle.plan_json.proofs.forms.named_texts_in.Given as goal

abbrev pub invariant-loop-name : goal.invariant-loop-name
invariant-loop-name l =
    (with_front l.found.items (texts_in (members_data l.name-iterator)) ≡ texts_in (members_data l.members.entries))
    × (map (λ n. n.name) l.found.items ++ keys_of l.name-iterator ≡ keys_of l.members.entries)
