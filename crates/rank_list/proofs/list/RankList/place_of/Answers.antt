use Rattle.rank_list.proofs.Order.{absent_at_end}
use Rattle.rank_list.proofs.list.RankList.place_of.Goals as goal

pub returns-in-None-clause-there : goal.returns-in-None-clause-there
returns-in-None-clause-there g c =
    (λ e. absurd (cc), λ there. absurd (absent_at_end _ g.met.T.Placed.total _ _ _ _ c.self.view_is c.self.invariant c.place-place.ensures c.in-None.ensures there))
