use Rattle.std.proofs.Common.{◌≡◌}
use Rattle.view_spec.specs.Openings.{is_visible}
use Rattle.view_shape.proofs.VisibleLaws.{asked_from}
use Rattle.view_shape.proofs.open_state.OpenState.is_visible.Given as goal

abbrev pub invariant-loop-i : goal.invariant-loop-i
invariant-loop-i l = asked_from l.self l.path l.i ≡ is_visible l.self l.path
