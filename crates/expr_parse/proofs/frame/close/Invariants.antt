use Rattle.std.proofs.Common.{◌≡◌, length}
use Rattle.expr_parse.specs.Machine.{closed}
use Rattle.expr_parse.proofs.frame.close.Given as goal

abbrev pub invariant-closing : goal.invariant-closing
invariant-closing l = closed l.least l.fn.operand l.fn.frames ≡ closed l.least l.tree l.frames

abbrev pub decreases-closing : goal.decreases-closing
decreases-closing l = length l.frames
