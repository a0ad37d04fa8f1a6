use Rattle.std.proofs.Common.{ap}
use Rattle.rank_list.proofs.Order.{HasArrived, arrived}
use Rattle.rank_list.proofs.list.RankList.insert.Given.{Over}
use Rattle.rank_list.proofs.list.RankList.insert.Goals as goal

has_arrived : (g : Over) (c : goal.Joined-self-insert g) → HasArrived g.T.Placed.order c.args.item c.place-place.result c.insert.result.0
has_arrived g c =
    arrived _ g.met.T.Placed.total g.met.T.Placed.exact _ _ _ _ _ _ _ c.self.view_is (ap (λ t. t.0) c.replace-tree.ensures.value) c.in-Ok.ensures.ok c.self.invariant c.requires.absent c.place-place.ensures c.insert.ensures.items

pub invariant_of-self : goal.invariant_of-self
invariant_of-self g c = (has_arrived g c).ascending

pub returns-clause-found : goal.returns-clause-found
returns-clause-found g c = (has_arrived g c).found

pub returns-clause-ascending : goal.returns-clause-ascending
returns-clause-ascending g c = (has_arrived g c).ascending
