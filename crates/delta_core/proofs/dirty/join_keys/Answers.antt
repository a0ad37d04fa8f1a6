use Rattle.delta_core.proofs.DirtyMaps.{none_known, over_known}
use Rattle.delta_core.proofs.dirty.join_keys.Goals as goal

pub returns-then-over-clause-keys : goal.returns-then-over-clause-keys
returns-then-over-clause-keys c all over known =
    none_known c.args.bound all c.args.touched.now c.args.keys.now c.args.over c.if-over.true over known

pub returns-then-over-clause-over : goal.returns-then-over-clause-over
returns-then-over-clause-over c all over known = over_known c.args.bound all c.args.touched.now c.args.over c.if-over.true over
