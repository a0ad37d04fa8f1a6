use Rattle.hub_spec.proofs.Ports as ports
use Rattle.hub_spec.proofs.batches_are_kept.Goals as goal

pub returns-clause-all : goal.returns-clause-all
returns-clause-all c = ports.applied_then_waiting

pub returns-clause-in_order : goal.returns-clause-in_order
returns-clause-in_order c = ports.applied_in_order

pub returns-clause-rows : goal.returns-clause-rows
returns-clause-rows c = ports.rows_are_applied
