use Rattle.std.proofs.Common.{◌≡◌, [], ◌∷◌, ◌+◌, ◌-◌, ◌^◌, min, length, refl, sym, ap, ◌∙◌, subst, arith}
use Rattle.std.specs.Prelude.{is_none, slice_get}
use Rattle.frame_types.specs.Asks as ask
use Rattle.frame_types.specs.declared.reply.Body.TheVariants as body
use Rattle.hub_ports.specs.Ports.{PortsData, taken_off}
use Rattle.row_batch.specs.Checks.{IsChecked}
use Rattle.hub_spec.specs.Answers.{nothing_waits, without_port}
use Rattle.hub_spec.specs.Ports.{taken_count}
use Rattle.hub_spec.proofs.Giving.{err_body}
use Rattle.hub_core.specs.Taken.{AreTaken}
use Rattle.hub_core.proofs.Applying.{applied_gives}
use Rattle.hub_core.proofs.Giving.{behind_table, first_gives, ports_are, wanted_gives}
use Rattle.hub_core.proofs.RowOrders.{put_still}
use Rattle.hub_core.proofs.TableChanges.{still_table}
use Rattle.hub_core.proofs.Takings.{front_taken, off_taken}
use Rattle.view_kept.proofs.StepLaws.{batch_is_step}
use Rattle.hub_views.specs.Refreshing.{AreSteps}
use Rattle.hub_views.proofs.Sides.{table_keys}
use Rattle.hub_views.proofs.Standing.{views_of_still}
use Rattle.hub_core.proofs.engine.Engine.apply.Goals as goal

pub returns-in_err-place-clause-gives : goal.returns-in_err-place-clause-gives
returns-in_err-place-clause-gives g c = λ session past h few.
    let e = c.args.self.now in
    let port = c.args.port in
    rw (err_body _ _ c.from_residual.ensures)
    (first_gives e.table e.version e.ports e.views past session (ask.apply port) (without_port past port ∷ nothing_waits past port ∷ []) [] (body.Applied port (taken_count past port + 1)) _ h
    (behind_table past (without_port past port ∷ nothing_waits past port ∷ []) (body.Applied port (taken_count past port + 1)) (ap is_none h.table.schema)) (c.in_err-place.ensures.tested past h.ports))

pub returns-in_default-clause-gives : goal.returns-in_default-clause-gives
returns-in_default-clause-gives g c = λ session past h few.
    let e = c.args.self.now in
    rw c.memory.ensures (wanted_gives e.table e.version e.ports e.views past session (ask.apply c.args.port) h refl)

pub returns-in_default-prepare-clause-gives : goal.returns-in_default-prepare-clause-gives
returns-in_default-prepare-clause-gives g c = λ session past h few.
    let e = c.args.self.now in
    rw c.memory-in_default-prepare.ensures
    (wanted_gives c.prepare.new.self e.version e.ports e.views past session (ask.apply c.args.port)
    (record {
      table = still_table e.table c.prepare.new.self e.version past c.in_default-prepare.ensures.still h.table;
      ports = h.ports;
      views = views_of_still e.views e.table c.prepare.new.self past c.in_default-prepare.ensures.still h.views;
    }) refl)

pub prepare-requires : goal.prepare-requires
prepare-requires g c =
    let e = c.args.self.now in
    record {
      checked = front_taken e.table.schema e.ports.live c.in_ok-place.place c.in_ok-place.batch.now c.in_ok-place.ensures.within e.taken c.in_ok-place.ensures.front;
    }

pub invariant_of-self-2 : goal.invariant_of-self-2
invariant_of-self-2 g c =
    let e = c.args.self.now in
    let same : c.apply-changes.new.self.schema ≡ e.table.schema = c.apply-changes.ensures.schema ∙ c.in-Ok-prepare.ensures.still.schema in
    record {
      taken = rw (c.take_front.ensures.ports, same) (off_taken e.table.schema e.ports.live c.in_ok-place.place c.in_ok-place.ensures.within e.taken);
    }

pub returns-clause-gives : goal.returns-clause-gives
returns-clause-gives g c = λ session past h few.
    let e = c.args.self.now in
    let table = c.apply-changes.new.self in
    let steps : AreSteps e.table c.apply-changes.result table =
    λ plan opening. batch_is_step plan opening e.table c.prepare.new.self table c.in-Ok-prepare.prepared.batch c.apply-changes.result (table_keys e.table e.version past h.table)
    c.in-Ok-prepare.ensures.still c.apply-changes.ensures.schema c.apply-changes.ensures.rows c.apply-changes.ensures.changes in
    rw c.applied.ensures.value
    (ports_are table c.saturating_add-self.result _ _ c.refresh-lost.new.self past session (ask.apply c.args.port) _ c.take_front.ensures.ports
    (applied_gives e.table table e.version c.saturating_add-self.result e.ports e.views c.refresh-lost.new.self past session c.args.port c.in_ok-place.place c.saturating_add-seq.result c.in_ok-place.batch.now c.refresh-lost.result
    h few c.in_ok-place.ensures.within c.in_ok-place.ensures.number c.in_ok-place.ensures.front
    (c.apply-changes.ensures.schema ∙ c.in-Ok-prepare.ensures.still.schema)
    (put_still e.table c.prepare.new.self c.in_ok-place.batch.now c.in-Ok-prepare.prepared.batch table.store c.in-Ok-prepare.ensures.still c.in-Ok-prepare.ensures.batch c.apply-changes.ensures.rows)
    c.saturating_add-self.ensures
    (c.saturating_add-seq.ensures ∙ ap (λ k. min (k + 1) (2 ^ 64 - 1)) (c.taken.ensures ∙ ap (λ q. q.accepted - length q.waiting) c.queue.ensures))
    (c.refresh-lost.ensures.lost e.table past h.views)
    (λ asking n at on done request now. c.refresh-lost.ensures.holds e.table (rw c.as_slice.ensures steps) past h.views e.version asking n at on done request h.table now)))
