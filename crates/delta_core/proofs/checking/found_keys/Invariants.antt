use Rattle.std.proofs.Common.{◌≡◌, [], drop}
use Rattle.delta_core.specs.Preparing.{found_among}
use Rattle.delta_core.proofs.checking.found_keys.Given as goal

abbrev pub invariant-loop-row : goal.invariant-loop-row
invariant-loop-row l = found_among l.keys.keys l.found.keys (drop l.row-index l.rows) ≡ found_among l.keys.keys [] l.rows
