use Rattle.std.proofs.Common.{None, Some, [], ◌∷◌, inl, inr, refl, sym, ap, ◌∙◌}
use Rattle.std.specs.Option.{option_or}
use Rattle.hub_core.specs.Refusing.{first_refusal}
use Rattle.hub_core.proofs.PortTests.{room_is, over_none, over_some}
use Rattle.hub_core.proofs.engine.Engine.check_rows.Goals as goal

pub returns-in-Ok-None : goal.returns-in-Ok-None
returns-in-Ok-None g c = λ past h.
    let e = c.args.self.now in
    ap (λ o. first_refusal (o ∷ []))
    (room_is e.table e.version e.ports past c.args.batch.now h.table h.ports ∙ over_none _ (sym c.in-Ok-None.ensures ∙ c.in-Ok-None.field-0-is))

pub returns-in-Ok-Some : goal.returns-in-Ok-Some
returns-in-Ok-Some g c = λ past h.
    let e = c.args.self.now in
    inl (
      ap (λ o. first_refusal (o ∷ []))
          (room_is e.table e.version e.ports past c.args.batch.now h.table h.ports ∙ over_some _ c.in-Ok-Some.would (sym c.in-Ok-Some.ensures ∙ c.in-Ok-Some.field-0-is))
          ∙ ap Some (sym c.table_full.ensures),
      rw c.table_full.ensures refl,
    )

pub returns-in-Err : goal.returns-in-Err
returns-in-Err g c = λ past h. inr c.memory.ensures
