use Rattle.hub_views.proofs.GroupNames.{AreSameSoFar}
use Rattle.hub_views.proofs.groups.have_same_groups.Given as goal

abbrev pub invariant-loop-i : goal.invariant-loop-i
invariant-loop-i l = AreSameSoFar l.schema.columns l.before l.after l.was l.now l.i
