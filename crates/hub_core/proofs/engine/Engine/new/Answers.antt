use Rattle.std.proofs.Common.{◌≡◌, refl, sym, ap}
use Rattle.hub_core.proofs.Bare.{fresh_holds}
use Rattle.hub_core.proofs.engine.Engine.new.Goals as goal

pub returns : goal.returns
returns c = λ past h. rw c.new.ensures (fresh_holds c.args.table c.new-2.result past h c.requires (c.new-2.ensures c.args.table past))
