use Rattle.std.proofs.Common.{◌≡◌, Some, ap, slice_get}
use Rattle.rank_list.proofs.Entries.{key_is}
use Rattle.rank_list.proofs.map.RankMap.take_out.Goals as goal

pub returns-clause-at : goal.returns-clause-at
returns-clause-at g c =
    let taken : slice_get c.args.self.now c.in_ok-at.at ≡ Some c.into_item.result = cc in
    key_is c.args.self.now c.in_ok-at.at c.args.place.now c.into_item.result c.in_ok-at.ensures.found taken
