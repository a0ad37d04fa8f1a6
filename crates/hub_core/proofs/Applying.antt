-- An applied batch: its answer names the views that are lost, and the others show what the rows are then.
use Rattle.std.proofs.Common.{◌≡◌, ℕ, ◌+◌, ◌-◌, ◌<◌, ◌^◌, min, List, [], ◌∷◌, length, drop, Some, None, refl, sym, ap, ◌∙◌, subst, arith, length-drop}
use Rattle.std.specs.Prelude.{is_none, slice_get, if◌then◌else◌}
use Rattle.std.proofs.lemmas.Bool.{lt-ltb}
use Rattle.row_batch.specs.Batches.{put_batch}
use Rattle.row_batch.specs.Tables.{IsReordered}
use Rattle.row_batch.specs.declared.batch.Batch.{Batch}
use Rattle.hub_ports.specs.Ports.{PortsData, port_at, taken_off}
use Rattle.table_core.specs.Tables.{TableData}
use Rattle.frame_types.specs.Asks.{Ask}
use Rattle.frame_types.specs.Asks as ask
use Rattle.frame_types.specs.Refusals.{empty}
use Rattle.frame_types.specs.declared.reply.Body.TheVariants as body
use Rattle.hub_spec.specs.Past.{PastStep}
use Rattle.hub_spec.specs.Answers.{nothing_waits, refused_if, without_port}
use Rattle.hub_spec.specs.Giving.{Gives, IsGiven, plain_in, with_step}
use Rattle.hub_spec.specs.Histories.{answer_under, choice_of, may_choose}
use Rattle.hub_spec.specs.Ports as ports
use Rattle.hub_spec.proofs.Counting.{accepted_le, applied_le}
use Rattle.hub_views.specs.Keeping.{HoldsViews}
use Rattle.hub_views.specs.Refreshing.{AreLosses, applied_body}
use Rattle.hub_views.specs.Tables.{HoldsTable}
use Rattle.hub_views.specs.declared.views.Views.{Views}
use Rattle.hub_core.specs.Holding.{HoldsParts, HoldsPorts}
use Rattle.hub_core.specs.Refusing.{first_refusal}
use Rattle.hub_core.proofs.Giving.{behind_table, passed}
use Rattle.hub_core.proofs.Live.{port_is}
use Rattle.hub_core.proofs.PortChanges.{applied_ports}
use Rattle.hub_core.proofs.PortTests.{empty_is, front_waits, waits_is}
use Rattle.hub_core.proofs.TableChanges.{applied_table}

-- what holds where no view is lost holds of the table and the ports where some are
table_after : (t : TableData) (number : ℕ) (past : List PastStep) (session n at port seq : ℕ) (request : Ask) (lost : List (ℕ × ℕ))
    → HoldsTable t number (with_step session request n at (body.Applied port seq) past) → HoldsTable t number (with_step session request n at (applied_body port seq lost) past)
table_after t number past session n at port seq request [] h = h
table_after t number past session n at port seq request (w ∷ lost) h = h

ports_after : (kept : PortsData) (past : List PastStep) (session n at port seq : ℕ) (request : Ask) (lost : List (ℕ × ℕ))
    → HoldsPorts kept (with_step session request n at (body.Applied port seq) past) → HoldsPorts kept (with_step session request n at (applied_body port seq lost) past)
ports_after kept past session n at port seq request [] h = h
ports_after kept past session n at port seq request (w ∷ lost) h = h

-- the answer names the choice to lose these views
given_after : (past : List PastStep) (session port seq : ℕ) (lost : List (ℕ × ℕ)) → plain_in past session (ask.apply port) ≡ body.Applied port seq → AreLosses past lost
    → IsGiven past session (ask.apply port) (applied_body port seq lost)
given_after past session port seq [] plain losses = record { right = sym plain; allowed = refl }
given_after past session port seq (w ∷ lost) plain losses =
    let some : 0 < length (w ∷ lost) = omega arith in
    record {
      right = sym (ap (answer_under (choice_of (applied_body port seq (w ∷ lost)))) plain);
      allowed = ap (may_choose past (ask.apply port) (choice_of (applied_body port seq (w ∷ lost)))) plain
          ∙ (rw (lt-ltb 0 (length (w ∷ lost)) some, losses.ascending, losses.live) refl);
    }

first_and_rest : {X : Type 0} (xs : List X) (x : X) → slice_get xs 0 ≡ Some x → xs ≡ x ∷ drop 1 xs
first_and_rest [] x e = absurd (cc)
first_and_rest (y ∷ ys) x e = let same : y ≡ x = cc in ap (λ z. z ∷ ys) same

pub applied_gives : (before after : TableData) (version number : ℕ) (kept : PortsData) (was now : Views) (past : List PastStep) (session port place seq : ℕ) (b : Batch) (lost : List (ℕ × ℕ))
    → HoldsParts before version kept was past → length past < 2 ^ 53
    → place < length kept.live → (port_at kept.live place).number ≡ port → slice_get (port_at kept.live place).queue.waiting 0 ≡ Some b
    → after.schema ≡ before.schema → IsReordered (put_batch before.schema before.store b) after.store
    → number ≡ min (version + 1) (2 ^ 64 - 1)
    → seq ≡ min ((port_at kept.live place).queue.accepted - length (port_at kept.live place).queue.waiting + 1) (2 ^ 64 - 1)
    → AreLosses past lost
    → ((asking n at on done : ℕ) (request : Ask) → HoldsTable after number (with_step asking request n at (applied_body on done lost) past)
    → HoldsViews now after (with_step asking request n at (applied_body on done lost) past))
    → Gives past session (ask.apply port) (applied_body port seq lost) (HoldsParts after number (record kept { live = taken_off kept.live place }) now)
applied_gives before after version number kept was now past session port place seq b lost h few lt at front same put next seq_is losses refreshed =
    let p = port_at kept.live place in
    let here = (port_is past kept place h.ports lt).0 in
    let waits : ports.waiting past port ≡ p.queue.waiting = waits_is kept past place port h.ports lt at in
    let first : ports.waiting past port ≡ b ∷ drop 1 p.queue.waiting = waits ∙ first_and_rest p.queue.waiting b front in
    let accepted : p.queue.accepted ≡ length (ports.batches_accepted past port) = ap (λ q. q.queue.accepted) here ∙ ap (λ k. length (ports.batches_accepted past k)) at in
    let taken : p.queue.accepted - length p.queue.waiting ≡ ports.taken_count past port =
    omega (arith, accepted, ap length waits, h.ports.within port, length-drop (ports.taken_count past port) (ports.batches_accepted past port)) in
    let one_more : seq ≡ ports.taken_count past port + 1 = omega (arith, seq_is, taken, h.ports.within port, accepted_le past port) in
    let raised : number ≡ version + 1 = omega (arith, next, h.table.number, applied_le past) in
    let some : 0 < length p.queue.waiting = omega (arith, ap length (first_and_rest p.queue.waiting b front)) in
    let tests : first_refusal (without_port past port ∷ nothing_waits past port ∷ []) ≡ None =
    empty_is kept past place port h.ports lt at ∙ ap (λ e. first_refusal (refused_if e empty ∷ [])) (front_waits p.queue.waiting b front) in
    let plain : plain_in past session (ask.apply port) ≡ body.Applied port seq =
    behind_table past (without_port past port ∷ nothing_waits past port ∷ []) (body.Applied port (ports.taken_count past port + 1)) (ap is_none h.table.schema)
    ∙ passed (without_port past port ∷ nothing_waits past port ∷ []) [] (body.Applied port (ports.taken_count past port + 1)) tests
    ∙ ap (body.Applied port) (sym one_more) in
    let table : (n at_version : ℕ) → HoldsTable after number (with_step session (ask.apply port) n at_version (body.Applied port seq) past) =
    λ n at_version. rw raised (applied_table before after version past session (ask.apply port) n at_version port seq b (drop 1 p.queue.waiting) h.table first same put) in
    record {
      given = given_after past session port seq lost plain losses;
      holds = λ n at_version.
          let its_table = table_after after number past session n at_version port seq (ask.apply port) lost (table n at_version) in
          record {
            table = its_table;
            ports = ports_after (record kept { live = taken_off kept.live place }) past session n at_version port seq (ask.apply port) lost
                (subst (λ k. HoldsPorts (record kept { live = taken_off kept.live place }) (with_step session (ask.apply port) n at_version (body.Applied k seq) past)) at
                (applied_ports kept past session (ask.apply port) n at_version place seq h.ports lt some));
            views = refreshed session n at_version port seq (ask.apply port) its_table;
          };
    }
