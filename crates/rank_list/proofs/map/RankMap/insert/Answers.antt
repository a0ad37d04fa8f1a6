use Rattle.std.proofs.Common.{ap, refl}
use Rattle.std.specs.List.Sorted.{IsStrictlySortedBy}
use Rattle.std.specs.Map.{keys_of}
use Rattle.rank_list.proofs.Entries.{keyed_arrived}
use Rattle.rank_list.proofs.map.RankMap.insert.Given.{Over}
use Rattle.rank_list.proofs.map.RankMap.insert.Goals as goal

ascends : (g : Over) (c : goal.Joined-self-insert g) → IsStrictlySortedBy g.P.Placed.order (keys_of c.insert.result.0)
ascends g c =
    keyed_arrived _ g.met.P.Placed.total g.met.P.Placed.exact _ _ _ _ (c.args.place, c.args.value) _ _ _ c.self.view_is (ap (λ t. t.0) c.replace-tree.ensures.value) c.in-Ok.ensures.ok refl c.self.invariant c.requires.absent c.entry_place-at.ensures c.insert.ensures.items

pub invariant_of-self : goal.invariant_of-self
invariant_of-self g c = ascends g c

pub returns-clause-ascending : goal.returns-clause-ascending
returns-clause-ascending g c = ascends g c
