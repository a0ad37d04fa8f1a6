use Rattle.hub_core.specs.Holding.{version_of}
use Rattle.hub_core.proofs.machine.Machine.answer.Goals as goal

pub returns-in-Some-clause-gives : goal.returns-in-Some-clause-gives
returns-in-Some-clause-gives g c = λ past h few. let held = rw c.in-Some.is at h in c.answer.ensures.gives past held few

pub returns-in-None-clause-gives : goal.returns-in-None-clause-gives
returns-in-None-clause-gives g c = λ past h few. c.begin.ensures.gives c.args.session past h few

pub returns-in-None-clause-ends : goal.returns-in-None-clause-ends
returns-in-None-clause-ends g c = c.begin.ensures.ends (version_of c.begin.new.self)
