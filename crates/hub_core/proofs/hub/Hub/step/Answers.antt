use Rattle.std.proofs.Common.{◌+◌, set, refl, arith}
use Rattle.frame_types.specs.Asks.{request_view}
use Rattle.hub_core.specs.Standing.{limit_of}
use Rattle.hub_core.proofs.Stepping.{full_steps, counted_steps}
use Rattle.hub_core.proofs.hub.Hub.step.Goals as goal

pub returns-then-self-clause-steps : goal.returns-then-self-clause-steps
returns-then-self-clause-steps g c = λ h s.
    rw c.history_full.ensures (
    full_steps c.args.self.now h c.args.session c.saturating_add-n.result c.version.result (request_view c.args.request) s (omega arith) (omega arith) c.version.ensures.holds c.saturating_add-n.ensures)

pub returns-clause-steps : goal.returns-clause-steps
returns-clause-steps g c = λ h s.
    let before = c.args.self.now in
    counted_steps before (record before { entries = before.entries + 1; counts = set before.counts c.args.session c.saturating_add-n.result; machine = c.act-body.new.self })
    h c.args.session c.saturating_add-n.result c.version-2.result (request_view c.args.request) c.act-body.result
    s (omega arith) (omega arith) refl refl refl c.saturating_add-n.ensures c.act-body.ensures.gives c.version-2.ensures.holds

pub returns-clause-limit : goal.returns-clause-limit
unfolding limit_of
returns-clause-limit g c = refl
