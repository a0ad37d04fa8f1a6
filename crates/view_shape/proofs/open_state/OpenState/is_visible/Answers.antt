use Rattle.std.proofs.Common.{◌<◌, length, sym, ap, ◌∙◌, arith}
use Rattle.view_spec.specs.Openings.{is_visible}
use Rattle.view_shape.proofs.VisibleLaws.{asked_closed, asked_open}
use Rattle.view_shape.proofs.open_state.OpenState.is_visible.Goals as goal

pub returns-then-not-is_open_at : goal.returns-then-not-is_open_at
returns-then-not-is_open_at c =
    let within : c.loop-i.i < length c.as_slice-path.result.now = omega arith in
    sym (asked_closed c.args.self.now c.as_slice-path.result.now c.loop-i.i within (sym c.is_open_at.ensures ∙ c.if-not-is_open_at.true))
    ∙ c.loop-i.invariant ∙ ap (is_visible c.args.self.now) c.as_slice-path.ensures

pub loop-i-preserved : goal.loop-i-preserved
loop-i-preserved c =
    let within : c.loop-i.i < length c.as_slice-path.result.now = omega arith in
    sym (asked_open c.args.self.now c.as_slice-path.result.now c.loop-i.i within (sym c.is_open_at.ensures ∙ c.if-not-is_open_at.false)) ∙ c.loop-i.invariant
