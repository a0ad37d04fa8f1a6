use Rattle.plan_check.proofs.Readings.{tree-read, parsed-tree, fault-first, parsed-fault}
use Rattle.plan_check.proofs.laws.texts_are_read.Goals as goal

pub returns-clause-read : goal.returns-clause-read
returns-clause-read c = tree-read

pub returns-clause-tree : goal.returns-clause-tree
returns-clause-tree c = parsed-tree

pub returns-clause-refused : goal.returns-clause-refused
returns-clause-refused c = fault-first

pub returns-clause-fault : goal.returns-clause-fault
returns-clause-fault c = parsed-fault
