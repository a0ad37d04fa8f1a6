use Rattle.std.proofs.Common.{◌≡◌, [], ◌∷◌, ◌++◌, false, sym, ap, ◌∙◌, leb, length}
use Rattle.hub_ports.specs.Ports.{port_at}
use Rattle.frame_types.specs.Refusals.{port_full}
use Rattle.hub_spec.specs.Answers.{closed_port, full_port, queued, without_port}
use Rattle.hub_spec.specs.Limits.{max_waiting}
use Rattle.hub_spec.proofs.Giving.{err_body}
use Rattle.hub_core.specs.Queueing.{asked_by, reading, without_room}
use Rattle.hub_core.specs.Refusing.{first_refusal}
use Rattle.hub_core.proofs.Giving.{first_gives, first_none, passed, ports_are, tested_gives, wanted_gives}
use Rattle.hub_core.proofs.PortSteps.{queued_gives}
use Rattle.hub_core.proofs.PortTests.{full_is, not_refused, put_open}
use Rattle.hub_core.proofs.Queueing.{asked_is, behind_port, behind_reading, few_rows, one_list, takes_memory, without_room_for}
use Rattle.hub_core.proofs.engine.Engine.queue.Goals as goal

pub put-requires : goal.put-requires
put-requires g c = record {
  within = c.in_ok-place.ensures.within;
  small = few_rows _ c.in_ok-batch.batch c.in_ok-batch.ensures.checked;
}

pub returns-in_err-place-clause-gives : goal.returns-in_err-place-clause-gives
returns-in_err-place-clause-gives g c = λ session past h few.
    let e = c.args.self.now in
    let port = c.args.port in
    rw (err_body _ _ c.from_residual.ensures)
    (first_gives e.table e.version e.ports e.views past session (asked_by port c.args.contents) (without_port past port ∷ closed_port past port ∷ [])
    (reading e.table.schema port c.args.contents ++ full_port past port ∷ without_room_for past port c.args.contents ∷ []) (queued past port) _ h
    (one_list past e.table.schema session port c.args.contents h.table.schema) (c.in_err-place.ensures.tested past h.ports))

pub returns-in_err-batch-clause-gives : goal.returns-in_err-batch-clause-gives
returns-in_err-batch-clause-gives g c = λ session past h few.
    let e = c.args.self.now in
    let port = c.args.port in
    rw (err_body _ _ c.from_residual-in_err-batch.ensures)
    (tested_gives e.table e.version e.ports e.views past session (asked_by port c.args.contents) (reading e.table.schema port c.args.contents)
    (full_port past port ∷ without_room_for past port c.args.contents ∷ []) (queued past port) _ h
    (takes_memory port c.args.contents) (behind_port past e.table.schema session port c.args.contents h.table.schema (c.in_ok-place.ensures.tested past h.ports))
    (rw c.schema.ensures at (c.in_err-batch.ensures.tested port)))

pub returns-in_err-check_room-clause-gives : goal.returns-in_err-check_room-clause-gives
returns-in_err-check_room-clause-gives g c = λ session past h few.
    let e = c.args.self.now in
    let port = c.args.port in
    let b = c.in_ok-batch.batch in
    let tested = rw c.in_ok-place.ensures.number at (c.in_err-check_room.ensures past h) in
    rw (err_body _ _ c.from_residual-in_err-check_room.ensures)
    (tested_gives e.table e.version e.ports e.views past session (asked_by port c.args.contents) (full_port past port ∷ without_room past b ∷ []) [] (queued past port) _ h
    (takes_memory port c.args.contents)
    (behind_reading past e.table.schema session port c.args.contents b h.table.schema (c.in_ok-place.ensures.tested past h.ports)
    (rw c.schema.ensures at (c.in_ok-batch.ensures.tested port)) (rw c.schema.ensures at (c.in_ok-batch.ensures.ok port)))
    tested)

pub returns-in-Ok-clause-gives : goal.returns-in-Ok-clause-gives
returns-in-Ok-clause-gives g c = λ session past h few.
    let e = c.args.self.now in
    let port = c.args.port in
    let place = c.in_ok-place.place in
    let b = c.in_ok-batch.batch in
    let read = rw c.schema.ensures at (c.in_ok-batch.ensures.ok port) in
    let room = c.in_ok-check_room.ensures past h in
    let here = rw c.in_ok-place.ensures.number at room in
    let free : leb max_waiting (length (port_at e.ports.live place).queue.waiting) ≡ false =
    not_refused (leb max_waiting (length (port_at e.ports.live place).queue.waiting)) port_full
    (sym (full_is e.ports past place h.ports c.in_ok-place.ensures.within) ∙ first_none (full_port past (port_at e.ports.live place).number) (without_room past b ∷ []) room) in
    let plain = behind_reading past e.table.schema session port c.args.contents b h.table.schema (c.in_ok-place.ensures.tested past h.ports)
    (rw c.schema.ensures at (c.in_ok-batch.ensures.tested port)) read
    ∙ passed (full_port past port ∷ without_room past b ∷ []) [] (queued past port) here in
    ports_are e.table e.version _ _ e.views past session (asked_by port c.args.contents) _ c.in-Ok.ensures.ok
    (queued_gives e.table e.version e.ports e.views past session port place c.in-Ok.seq (asked_by port c.args.contents) b h c.in_ok-place.ensures.within c.in_ok-place.ensures.number
    c.in_ok-place.ensures.open (asked_is past e.table.schema port c.args.contents b h.table.schema read)
    (put_open e.ports place c.in-Ok.seq b c.in_ok-place.ensures.open free c.in-Ok.ensures.outcome) plain)

pub returns-clause-gives : goal.returns-clause-gives
returns-clause-gives g c = λ session past h few.
    let e = c.args.self.now in
    rw c.memory.ensures
    (ports_are e.table e.version _ _ e.views past session (asked_by c.args.port c.args.contents) _ c.in-Err.ensures.err
    (wanted_gives e.table e.version e.ports e.views past session (asked_by c.args.port c.args.contents) h (takes_memory c.args.port c.args.contents)))
