use Rattle.group_walk.proofs.ToldSteps.{AreAdding}
use Rattle.group_walk.proofs.told.add.Given as goal

abbrev pub invariant-loop-value : goal.invariant-loop-value
invariant-loop-value l = AreAdding l.initial.beginnings.entries l.beginnings.entries l.path l.value-index l.beginning
