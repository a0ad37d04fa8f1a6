use Rattle.std.proofs.Common.{sym, subst}
use Rattle.std.specs.List.Sorted.{IsStrictlySortedBy}
use Rattle.plan_json.specs.Names.{NamesAscend}
use Rattle.plan_json.proofs.read.texts_at.Goals as goal

pub from_listed-requires : goal.from_listed-requires
unfolding IsStrictlySortedBy
from_listed-requires c = subst NamesAscend (sym c.new.ensures) tt
