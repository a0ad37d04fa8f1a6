use Rattle.std.proofs.Common.{sym, ◌∙◌}
use Rattle.hub_core.proofs.Queueing.{unread_is}
use Rattle.hub_core.proofs.contents.Contents.read.Goals as goal

pub returns-in-Err-clause-tested : goal.returns-in-Err-clause-tested
returns-in-Err-clause-tested c = λ port.
    rw c.rows.ensures (unread_is c.args.schema.now port c.args.self.now c.in-Err.why (sym c.lacks_index.ensures ∙ c.if-lacks_index.false) (c.in-Err.ensures.err port))
