-- On each port, what was applied and then what waits is what was accepted.
use Rattle.std.proofs.Common.{◌≡◌, ℕ, suc, ◌+◌, ◌<◌, ◌≤◌, eqb, List, [], ◌∷◌, ◌++◌, length, get_or, map, take, drop, filter, fold, Bool, true, false, cond, Option, Some, None, refl, sym, ap, ◌∙◌, arith, add-one, length-append, length-drop, drop-cons}
use Rattle.std.proofs.lemmas.Bool.{eqb-true}
use Rattle.std.proofs.lemmas.List.{take-append-le, take-append-drop, map-append, append-nil}
use Rattle.std.proofs.lemmas.List.Elements.{filter-append}
use Rattle.std.proofs.Math.Seq.{take-suc}
use Rattle.row_batch.specs.Batches.{Store, empty_store, put_batch}
use Rattle.row_batch.specs.declared.batch.Batch.{Batch}
use Rattle.frame_types.specs.Asks.{Ask}
use Rattle.frame_types.specs.ReplyData.{ReplyData}
use Rattle.frame_types.specs.declared.reply.Body.{Body}
use Rattle.frame_types.specs.declared.reply.Body.TheVariants as body
use Rattle.hub_spec.specs.Past.{PastStep}
use Rattle.hub_spec.specs.Histories.{Entry, past_of, answer_to}
use Rattle.hub_spec.specs.Laws.{batches_on, seqs_on, counted, AppliedThenWaiting, AppliedInOrder, RowsAreApplied}
use Rattle.hub_spec.specs.Ports.{Applied, with_batch, with_first}
use Rattle.hub_spec.specs.Ports as history
use Rattle.hub_spec.specs.Reading.{batch_asked}
use Rattle.hub_spec.specs.Rows.{schema_or_none}
use Rattle.hub_spec.proofs.Said.{Says, says_answer}

-- ---- lists

take_one_more : {X : Type 0} (n : ℕ) (x : X) (xs rest : List X) → drop n xs ≡ x ∷ rest → (n < length xs) × (take (n + 1) xs ≡ take n xs ++ x ∷ [])
take_one_more n x xs rest is =
    let lt : n < length xs = omega (arith, length-drop n xs, ap length is) in
    let both : get_or xs n x ∷ drop (suc n) xs ≡ x ∷ rest = sym (drop-cons xs n x lt) ∙ is in
    let first : get_or xs n x ≡ x = cc in
    (lt, rw add-one (take-suc xs n x lt ∙ ap (λ y. take n xs ++ y ∷ []) first))

counted_one_more : (n : ℕ) → counted (n + 1) ≡ counted n ++ (n + 1) ∷ []
counted_one_more n = let next : n + 1 ≡ suc n = omega arith in ap counted next

-- ---- the batches that were applied on a port

abbrev on : ℕ → List Applied → List Applied
on port done = filter (λ a. eqb a.port port) done

on_it : (port : ℕ) (done : List Applied) (a : Applied) → eqb a.port port ≡ true → on port (done ++ a ∷ []) ≡ on port done ++ a ∷ []
on_it port done a here = filter-append (λ b. eqb b.port port) done (a ∷ []) ∙ ap (λ test. on port done ++ cond test (a ∷ []) []) here

on_another : (port : ℕ) (done : List Applied) (a : Applied) → eqb a.port port ≡ false → on port (done ++ a ∷ []) ≡ on port done
on_another port done a there =
    filter-append (λ b. eqb b.port port) done (a ∷ []) ∙ ap (λ test. on port done ++ cond test (a ∷ []) []) there ∙ append-nil (on port done)

-- ---- what holds of a port after each step

pub record Kept (port : ℕ) (done : List Applied) (taken : ℕ) (accepted : List Batch) : Type 0 where
  pub batches : batches_on port done ≡ take taken accepted
  pub seqs : seqs_on port done ≡ counted taken
  pub within : taken ≤ length accepted

abbrev pub KeptIn : List PastStep → ℕ → Type 0
KeptIn past port = Kept port (history.batches_applied past) (history.taken_count past port) (history.batches_accepted past port)

kept_queued : (here : Bool) (b : Option Batch) (port taken : ℕ) (done : List Applied) (accepted : List Batch) → Kept port done taken accepted
    → Kept port done taken (cond here (with_batch b accepted) accepted)
kept_queued false b port taken done accepted kept = kept
kept_queued true None port taken done accepted kept = kept
kept_queued true (Some b) port taken done accepted kept = record {
  batches = kept.batches ∙ sym (take-append-le taken accepted (b ∷ []) kept.within);
  seqs = kept.seqs;
  within = omega (arith, length-append accepted (b ∷ []), kept.within);
}

kept_applied_here : (port at taken : ℕ) (done : List Applied) (waiting accepted : List Batch) → eqb at port ≡ true → drop taken accepted ≡ waiting → eqb (length waiting) 0 ≡ false
    → Kept port done taken accepted → Kept port (with_first waiting at (taken + 1) done) (taken + 1) accepted
kept_applied_here port at taken done [] accepted here is some kept = absurd (let wrong : true ≡ false = some in cc)
kept_applied_here port at taken done (b ∷ rest) accepted here is some kept =
    let a : Applied = record { port = at; seq = taken + 1; batch = b } in
    let more = take_one_more taken b accepted rest is in
    let joined = on_it port done a here in
    record {
      batches = ap (map (λ x. x.batch)) joined ∙ map-append (λ x. x.batch) (on port done) (a ∷ []) ∙ ap (λ bs. bs ++ b ∷ []) kept.batches ∙ sym more.1;
      seqs = ap (map (λ x. x.seq)) joined ∙ map-append (λ x. x.seq) (on port done) (a ∷ []) ∙ ap (λ ns. ns ++ (taken + 1) ∷ []) kept.seqs ∙ sym (counted_one_more taken);
      within = omega (arith, more.0);
    }

kept_applied_there : (port at seq taken : ℕ) (done : List Applied) (waiting accepted : List Batch) → eqb at port ≡ false
    → Kept port done taken accepted → Kept port (with_first waiting at seq done) taken accepted
kept_applied_there port at seq taken done [] accepted there kept = kept
kept_applied_there port at seq taken done (b ∷ rest) accepted there kept =
    let apart = on_another port done (record { port = at; seq = seq; batch = b }) there in
    record {
      batches = ap (map (λ x. x.batch)) apart ∙ kept.batches;
      seqs = ap (map (λ x. x.seq)) apart ∙ kept.seqs;
      within = kept.within;
    }

kept_applied : (past : List PastStep) (at port : ℕ) (here : Bool) → eqb at port ≡ here → eqb (length (history.waiting past at)) 0 ≡ false → KeptIn past port
    → Kept port (with_first (history.waiting past at) at (history.taken_count past at + 1) (history.batches_applied past)) (cond here (history.taken_count past port + 1) (history.taken_count past port)) (history.batches_accepted past port)
kept_applied past at port false is some kept =
    kept_applied_there port at (history.taken_count past at + 1) (history.taken_count past port) (history.batches_applied past) (history.waiting past at) (history.batches_accepted past port) is kept
kept_applied past at port true is some kept =
    rw (eqb-true at port is) (kept_applied_here port port (history.taken_count past port) (history.batches_applied past) (history.waiting past port) (history.batches_accepted past port)
    (rw (eqb-true at port is) at is) refl (rw (eqb-true at port is) at some) kept)

kept_step : (past : List PastStep) (session n version : ℕ) (request : Ask) (answer : Body) (port : ℕ) → Says past session request answer → KeptIn past port
    → KeptIn (record { session = session; request = request; reply = record { n = n; version = version; body = answer } } ∷ past) port
kept_step past session n version request (body.Queued at seq) port says kept =
    kept_queued (eqb at port) (batch_asked (history.schema past) request) port (history.taken_count past port) (history.batches_applied past) (history.batches_accepted past port) kept
kept_step past session n version request (body.Applied at seq) port says kept = kept_applied past at port (eqb at port) refl says kept
kept_step past session n version request (body.AppliedLosing lost at seq) port says kept = kept_applied past at port (eqb at port) refl says kept
kept_step past session n version request _ port says kept = kept

pub kept : (limit : ℕ) (h : List Entry) (port : ℕ) → KeptIn (past_of limit h) port
kept limit [] port = record { batches = refl; seqs = refl; within = omega arith }
kept limit (e ∷ h) port =
    let past = past_of limit h in
    let reply : ReplyData = answer_to limit past e.session e.request e.choice in
    kept_step past e.session reply.n reply.version e.request reply.body port (says_answer limit past e.session e.request e.choice) (kept limit h port)

-- ---- the laws

pub applied_then_waiting : AppliedThenWaiting
applied_then_waiting limit h port =
    let past = past_of limit h in
    ap (λ bs. bs ++ history.waiting past port) (kept limit h port).batches ∙ take-append-drop (history.taken_count past port) (history.batches_accepted past port)

pub applied_in_order : AppliedInOrder
applied_in_order limit h port = (kept limit h port).seqs

fold_batches : {X Y S : Type 0} (f : S → Y → S) (g : X → Y) (s : S) (xs : List X) → fold (λ t x. f t (g x)) s xs ≡ fold f s (map g xs)
fold_batches f g s [] = refl
fold_batches f g s (x ∷ xs) = fold_batches f g (f s (g x)) xs

pub rows_are_applied : RowsAreApplied
rows_are_applied past =
    ap (λ (s : Store). s.pairs) (fold_batches (put_batch (schema_or_none past)) (λ (a : Applied). a.batch) empty_store (history.batches_applied past))
