use Rattle.std.proofs.Common.{None, Some, [], ◌∷◌, refl, sym, ap, ◌∙◌, arith}
use Rattle.frame_types.specs.Refusals.{port_closed}
use Rattle.hub_spec.specs.Answers.{closed_port, refused_if}
use Rattle.hub_core.specs.Refusing.{first_refusal}
use Rattle.hub_core.proofs.PortTests.{closed_is, gone_closed, no_port_there}
use Rattle.hub_core.proofs.ports.open_place.Goals as goal
use Rattle.hub_core.proofs.ports.open_place.Goals.{in_default-via-in-Some+else-not-is_closed, in_default-via-in_default}

pub returns-then-port-made-clause-tested : goal.returns-then-port-made-clause-tested
returns-then-port-made-clause-tested c = λ past h.
    rw c.no_port.ensures (no_port_there c.args.ports.now past c.args.port (closed_port past c.args.port ∷ []) h (omega arith), refl)

pub returns-in-Some-clause-tested : goal.returns-in-Some-clause-tested
returns-in-Some-clause-tested c = λ past h.
    let is_open = ap (λ q. q.closed) (sym c.queue.ensures) ∙ sym c.is_closed.ensures ∙ c.if-not-is_closed.true in
    closed_is c.args.ports.now past c.in-Some.place c.args.port h c.in-Some.ensures.within c.in-Some.ensures.found
    ∙ ap (λ b. first_refusal (refused_if b port_closed ∷ [])) is_open

pub returns-in_default-clause-tested : goal.returns-in_default-clause-tested
returns-in_default-clause-tested c = λ past h.
    rw c.port_closed.ensures (
      elim c.in_default.branch [
        | in_default-via-in-Some+else-not-is_closed w ↦
            closed_is c.args.ports.now past w.in-Some.place c.args.port h w.in-Some.ensures.within w.in-Some.ensures.found
            ∙ ap (λ b. first_refusal (refused_if b port_closed ∷ [])) (ap (λ q. q.closed) (sym w.queue.ensures) ∙ sym w.is_closed.ensures ∙ w.if-not-is_closed.false)
        | in_default-via-in_default w ↦ gone_closed c.args.ports.now past c.args.port h (omega arith) (c.find.ensures.missing w.in_default.is)
      ],
      refl,
    )
