use Rattle.std.proofs.Common.{◌≡◌, ◌++◌}
use Rattle.view_shape.specs.Singles.{by_path}
use Rattle.view_shape.proofs.open_state.OpenState.copy.Given as goal

abbrev pub invariant-loop-path : goal.invariant-loop-path
invariant-loop-path l = by_path l.singles.entries ++ by_path l.path-iterator ≡ by_path l.initial.path-iterator
