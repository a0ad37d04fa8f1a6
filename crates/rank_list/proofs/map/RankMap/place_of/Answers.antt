use Rattle.rank_list.proofs.Entries.{keyed_at_end}
use Rattle.rank_list.proofs.map.RankMap.place_of.Goals as goal

pub returns-in-None-clause-there : goal.returns-in-None-clause-there
returns-in-None-clause-there g c =
    (λ e. absurd (cc), λ there. absurd (keyed_at_end _ g.met.P.Placed.total _ _ _ _ c.self.view_is c.self.invariant c.entry_place-at.ensures c.in-None.ensures there))
