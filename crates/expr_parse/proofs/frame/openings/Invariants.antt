use Rattle.std.proofs.Common.{◌≡◌, ◌+◌, ◌≤◌, drop}
use Rattle.expr_parse.specs.Machine.{depth}
use Rattle.expr_parse.proofs.frame.openings.Given as goal

abbrev pub invariant-loop-frame : goal.invariant-loop-frame
invariant-loop-frame l = (l.number + depth (drop l.frame-index l.frames) ≡ depth l.frames) × (l.number ≤ l.frame-index)
