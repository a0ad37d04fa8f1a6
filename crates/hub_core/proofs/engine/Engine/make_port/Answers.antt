use Rattle.std.proofs.Common.{[], ◌∷◌, refl, sym, ap, ◌∙◌}
use Rattle.frame_types.specs.Asks as ask
use Rattle.frame_types.specs.Refusals.{too_many_ports}
use Rattle.frame_types.specs.declared.reply.Body.TheVariants as body
use Rattle.hub_core.proofs.Giving.{ports_are, refused_gives, wanted_gives}
use Rattle.hub_core.proofs.PortSteps.{made_gives, port_plain}
use Rattle.hub_core.proofs.engine.Engine.make_port.Goals as goal

pub returns-then-is_full-clause-gives : goal.returns-then-is_full-clause-gives
returns-then-is_full-clause-gives c = λ session past h few.
    let e = c.args.self.now in
    rw c.too_many_ports.ensures
    (refused_gives e.table e.version e.ports e.views past session ask.port too_many_ports h
    (port_plain e.table e.version e.ports e.views past session _ h (sym c.is_full.ensures ∙ c.if-is_full.true)) refl)

pub returns-in-Ok-clause-gives : goal.returns-in-Ok-clause-gives
returns-in-Ok-clause-gives c = λ session past h few.
    let e = c.args.self.now in
    rw c.in-Ok.ensures.number
    (ports_are e.table e.version _ _ e.views past session ask.port _ c.in-Ok.ensures.ok
    (made_gives e.table e.version e.ports e.views past session h (sym c.is_full.ensures ∙ c.if-is_full.false)))

pub returns-in-Err-clause-gives : goal.returns-in-Err-clause-gives
returns-in-Err-clause-gives c = λ session past h few.
    let e = c.args.self.now in
    rw c.memory.ensures
    (ports_are e.table e.version _ _ e.views past session ask.port _ c.in-Err.ensures.err (wanted_gives e.table e.version e.ports e.views past session ask.port h refl))
