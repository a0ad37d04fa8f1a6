use Rattle.std.proofs.Common.{◌≡◌, drop}
use Rattle.view_types.specs.Same.{same_cells}
use Rattle.view_types.proofs.shown.ShownCells.same.Given as goal

abbrev pub invariant-loop-text : goal.invariant-loop-text
invariant-loop-text l = same_cells l.text-items l.initial.others.rest.now ≡ same_cells (drop l.text-index l.text-items) l.others.rest.now
