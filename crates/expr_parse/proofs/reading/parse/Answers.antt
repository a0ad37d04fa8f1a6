use Rattle.expr_parse.proofs.Readings.{ended_reads, ended_refuses, ended_tree, ended_fault}
use Rattle.expr_parse.proofs.reading.parse.Goals as goal

pub returns-clause-reads : goal.returns-clause-reads
returns-clause-reads c = ended_reads c.args.text.now c.read.result (rw c.as_str.ensures at c.read.ensures)

pub returns-clause-refuses : goal.returns-clause-refuses
returns-clause-refuses c = ended_refuses c.args.text.now c.read.result (rw c.as_str.ensures at c.read.ensures)

pub returns-clause-tree : goal.returns-clause-tree
returns-clause-tree c = ended_tree c.args.text.now c.read.result (rw c.as_str.ensures at c.read.ensures)

pub returns-clause-fault : goal.returns-clause-fault
returns-clause-fault c = ended_fault c.args.text.now c.read.result (rw c.as_str.ensures at c.read.ensures)
