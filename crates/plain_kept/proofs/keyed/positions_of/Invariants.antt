use Rattle.std.proofs.Common.{take}
use Rattle.key_map.specs.Keyed.{GivesPositions}
use Rattle.view_spec.specs.Touching.{key_of}
use Rattle.plain_kept.proofs.keyed.positions_of.Given as goal

abbrev pub invariant-loop-position : goal.invariant-loop-position
invariant-loop-position l = GivesPositions key_of l.positions (take l.position l.rows)
