use Rattle.std.proofs.Common.{◌≡◌, drop}
use Rattle.view_types.specs.Same.{same_header}
use Rattle.view_types.proofs.shown.same_header.Given as goal

abbrev pub invariant-loop-column : goal.invariant-loop-column
invariant-loop-column l = same_header l.a l.initial.others.rest.now ≡ same_header (drop l.column-index l.a) l.others.rest.now
