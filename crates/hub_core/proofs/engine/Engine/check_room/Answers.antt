use Rattle.std.proofs.Common.{◌≡◌, None, Some, true, false, [], ◌∷◌, inl, inr, refl, sym, ap, ◌∙◌, leb, length}
use Rattle.frame_types.specs.Refusals.{port_full}
use Rattle.hub_spec.specs.Answers.{refused_if, full_port}
use Rattle.hub_ports.specs.Ports.{port_at}
use Rattle.hub_spec.specs.Limits.{max_waiting}
use Rattle.hub_core.specs.Queueing.{puts_rows, without_room}
use Rattle.hub_core.specs.Refusing.{first_refusal}
use Rattle.hub_core.proofs.PortTests.{full_is}
use Rattle.hub_core.proofs.Queueing.{room_for_none, room_for_rows}
use Rattle.hub_core.proofs.engine.Engine.check_room.Goals as goal

pub returns-then-is_full : goal.returns-then-is_full
returns-then-is_full g c = λ past h.
    let e = c.args.self.now in
    let full = ap (λ q. leb max_waiting (length q.waiting)) (sym c.queue.ensures) ∙ sym c.is_full.ensures ∙ c.if-is_full.true in
    inl (
      ap (λ o. first_refusal (o ∷ without_room past c.args.batch.now ∷ [])) (full_is e.ports past c.args.place h.ports c.requires ∙ ap (λ b. refused_if b port_full) full)
          ∙ ap Some (sym c.port_full.ensures),
      rw c.port_full.ensures refl,
    )

pub returns-in-Update : goal.returns-in-Update
returns-in-Update g c = λ past h.
    let e = c.args.self.now in
    let full = ap (λ q. leb max_waiting (length q.waiting)) (sym c.queue.ensures) ∙ sym c.is_full.ensures ∙ c.if-is_full.false in
    let puts : puts_rows c.args.batch.now ≡ true = elim c.in-Update.is [ inl update ↦ ap puts_rows update.1 | inr replace ↦ ap puts_rows replace.1 ] in
    room_for_rows past (port_at e.ports.live c.args.place).number c.args.batch.now c.check_rows.result
    (full_is e.ports past c.args.place h.ports c.requires ∙ ap (λ b. refused_if b port_full) full) puts (c.check_rows.ensures past h)

pub returns-in-Remove : goal.returns-in-Remove
returns-in-Remove g c = λ past h.
    let e = c.args.self.now in
    let full = ap (λ q. leb max_waiting (length q.waiting)) (sym c.queue.ensures) ∙ sym c.is_full.ensures ∙ c.if-is_full.false in
    let puts : puts_rows c.args.batch.now ≡ false = elim c.in-Remove.is [ inl remove ↦ ap puts_rows remove.1 | inr clear ↦ ap puts_rows clear ] in
    room_for_none past (port_at e.ports.live c.args.place).number c.args.batch.now
    (full_is e.ports past c.args.place h.ports c.requires ∙ ap (λ b. refused_if b port_full) full) puts

pub returns-in-Remove-2 : goal.returns-in-Remove-2
returns-in-Remove-2 g c = λ past h.
    let e = c.args.self.now in
    let full = ap (λ q. leb max_waiting (length q.waiting)) (sym c.queue.ensures) ∙ sym c.is_full.ensures ∙ c.if-is_full.false in
    let puts : puts_rows c.args.batch.now ≡ false = elim c.in-Remove.is [ inl remove ↦ ap puts_rows remove.1 | inr clear ↦ ap puts_rows clear ] in
    room_for_none past (port_at e.ports.live c.args.place).number c.args.batch.now
    (full_is e.ports past c.args.place h.ports c.requires ∙ ap (λ b. refused_if b port_full) full) puts
