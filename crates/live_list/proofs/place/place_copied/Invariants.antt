use Rattle.std.proofs.Common.{◌≡◌, take}
use Rattle.live_list.proofs.place.place_copied.Given as goal

abbrev pub invariant-loop-rank : goal.invariant-loop-rank
invariant-loop-rank l = l.copy.items ≡ take l.rank-index l.ranks
