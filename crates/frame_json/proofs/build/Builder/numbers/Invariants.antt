use Rattle.std.proofs.Common.{◌≡◌, map, drop}
use Rattle.frame_json.specs.Building.{members_in}
use Rattle.frame_json.specs.Replies.{numbers_named, with_members}
use Rattle.frame_json.proofs.build.Builder.numbers.Given as goal

-- what is found, with the numbers that are left
abbrev pub invariant-loop-name : goal.invariant-loop-name
invariant-loop-name l =
    with_members (members_in l.self) (numbers_named (map (λ n. (n.0.now, n.1)) (drop l.name-index l.numbers)))
    ≡ with_members (members_in l.initial.self) (numbers_named (map (λ n. (n.0.now, n.1)) l.numbers))
