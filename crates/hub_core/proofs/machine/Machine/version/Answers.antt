use Rattle.std.proofs.Common.{◌≡◌, length, sym, ap, subst}
use Rattle.hub_core.specs.Holding.{holds_in}
use Rattle.hub_core.proofs.machine.Machine.version.Goals as goal

pub returns-in-Some-clause-holds : goal.returns-in-Some-clause-holds
returns-in-Some-clause-holds c = λ past h. let held = rw c.in-Some.is at h in held.table.number

pub returns-in-None-clause-holds : goal.returns-in-None-clause-holds
returns-in-None-clause-holds c = λ past h. let held = rw c.in-None.is at h in sym (ap length held.1.applied)
