use Rattle.std.proofs.Common.{None, Some, [], ◌∷◌, refl, sym, ap, ◌∙◌, arith, eqb, length}
use Rattle.std.specs.Option.{option_copied}
use Rattle.std.specs.Prelude.{slice_get}
use Rattle.frame_types.specs.Refusals.{empty}
use Rattle.hub_spec.specs.Answers.{nothing_waits, refused_if}
use Rattle.hub_core.specs.Refusing.{first_refusal}
use Rattle.hub_core.proofs.PortTests.{empty_is, front_waits, gone_empty, no_port_there, none_waits}
use Rattle.hub_core.proofs.ports.oldest_batch.Goals as goal

pub returns-then-port-made-clause-tested : goal.returns-then-port-made-clause-tested
returns-then-port-made-clause-tested c = λ past h.
    rw c.no_port.ensures (no_port_there c.args.ports.now past c.args.port (nothing_waits past c.args.port ∷ []) h (omega arith), refl)

pub returns-in_default-clause-tested : goal.returns-in_default-clause-tested
returns-in_default-clause-tested c = λ past h.
    rw c.empty.ensures (gone_empty c.args.ports.now past c.args.port h (omega arith) (c.find.ensures.missing c.in_default.is), refl)

pub returns-in-Some-front-clause-tested : goal.returns-in-Some-front-clause-tested
returns-in-Some-front-clause-tested c = λ past h.
    let waits = ap (λ q. slice_get q.waiting 0) (sym c.queue.ensures) ∙ sym c.front.ensures ∙ ap option_copied c.in-Some-front.is in
    empty_is c.args.ports.now past c.in-Some.place c.args.port h c.in-Some.ensures.within c.in-Some.ensures.found
    ∙ ap (λ b. first_refusal (refused_if b empty ∷ [])) (front_waits _ _ waits)

pub returns-in-None-clause-tested : goal.returns-in-None-clause-tested
returns-in-None-clause-tested c = λ past h.
    let waits = ap (λ q. slice_get q.waiting 0) (sym c.queue.ensures) ∙ sym c.front.ensures ∙ ap option_copied c.in-None.is in
    rw c.empty-in-None.ensures (
      empty_is c.args.ports.now past c.in-Some.place c.args.port h c.in-Some.ensures.within c.in-Some.ensures.found
          ∙ ap (λ b. first_refusal (refused_if b empty ∷ [])) (none_waits _ waits),
      refl,
    )
