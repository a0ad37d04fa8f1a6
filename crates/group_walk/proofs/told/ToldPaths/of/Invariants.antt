use Rattle.std.proofs.Common.{take}
use Rattle.group_walk.specs.Told.{AreBeginnings}
use Rattle.group_walk.proofs.told.ToldPaths.of.Given as goal

abbrev pub invariant-loop-path : goal.invariant-loop-path
invariant-loop-path l = AreBeginnings (take l.path-index l.paths) l.beginnings.entries
