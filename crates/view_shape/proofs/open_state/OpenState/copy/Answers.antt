use Rattle.std.proofs.Common.{◌∙◌}
use Rattle.view_shape.proofs.SingleLaws.{single_copied}
use Rattle.view_shape.proofs.open_state.OpenState.copy.Goals as goal

pub loop-path-preserved : goal.loop-path-preserved
loop-path-preserved c =
    let gives = c.into_iter-path-iterator.ensures.into_iter_gives in
    single_copied _ c.loop-path.singles.entries _ c.next.new.self c.insert.new.self.entries c.in-Some.path.now c.in_ok-copied.field-0 c.in-Some.opened.now
    (rw gives.0 gives.5) c.loop-path.invariant c.in-Some.ensures.steps (c.in_ok-copied.ensures ∙ c.as_slice.ensures.value) c.in_ok-insert.ensures.entries
