use Rattle.std.proofs.Common.{[], ◌∷◌, refl, sym, ap, subst}
use Rattle.frame_types.specs.Asks as ask
use Rattle.frame_types.specs.declared.reply.Body.TheVariants as body
use Rattle.hub_ports.specs.Ports.{PortsData}
use Rattle.hub_spec.specs.Answers.{closed_port, without_port}
use Rattle.hub_spec.proofs.Giving.{err_body}
use Rattle.hub_core.specs.Taken.{AreTaken}
use Rattle.hub_core.proofs.Giving.{first_gives, ports_are}
use Rattle.hub_core.proofs.PortSteps.{close_plain, closed_gives}
use Rattle.hub_core.proofs.Takings.{closed_taken}
use Rattle.hub_core.proofs.engine.Engine.close_port.Goals as goal

pub invariant_of-self : goal.invariant_of-self
invariant_of-self c =
    let e = c.args.self.now in
    record {
      taken = subst (λ (k : PortsData). AreTaken e.table.schema k.live) (sym c.close.ensures)
          (closed_taken e.table.schema e.ports.live c.in_ok-place.place c.in_ok-place.ensures.within e.taken);
    }

pub returns-in_err-place-clause-gives : goal.returns-in_err-place-clause-gives
returns-in_err-place-clause-gives c = λ session past h few.
    let e = c.args.self.now in
    rw (err_body _ _ c.from_residual.ensures)
    (first_gives e.table e.version e.ports e.views past session (ask.close_port c.args.port) (without_port past c.args.port ∷ closed_port past c.args.port ∷ []) [] (body.PortClosed c.args.port) _ h
    (close_plain e.table e.version e.ports e.views past session c.args.port h) (c.in_err-place.ensures.tested past h.ports))

pub returns-clause-gives : goal.returns-clause-gives
returns-clause-gives c = λ session past h few.
    let e = c.args.self.now in
    ports_are e.table e.version _ _ e.views past session (ask.close_port c.args.port) _ c.close.ensures
    (closed_gives e.table e.version e.ports e.views past session c.args.port c.in_ok-place.place h c.in_ok-place.ensures.within c.in_ok-place.ensures.number
    (c.in_ok-place.ensures.tested past h.ports))
