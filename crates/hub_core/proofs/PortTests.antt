-- What the tests of a request on a port say.
use Rattle.std.proofs.Common.{◌≡◌, ℕ, ◌+◌, ◌<◌, ◌≤◌, eqb, leb, ltb, Bool, true, false, List, [], ◌∷◌, ◌++◌, length, Option, Some, None, Result, Ok, unwrap_or, if◌then◌else◌, inl, inr, refl, sym, ap, ◌∙◌, subst, arith}
use Rattle.std.specs.Prelude.{slice_get}
use Rattle.std.specs.List.{list_any}
use Rattle.std.proofs.lemmas.Bool.{cases_lt, le-ltb, lt-ltb, ne_eqb}
use Rattle.cell_core.specs.Limits.{max_rows}
use Rattle.row_batch.specs.declared.batch.Batch.{Batch}
use Rattle.port_queue.specs.Queues.{put_outcome}
use Rattle.port_queue.specs.declared.queue.QueueRefused.{QueueRefused}
use Rattle.port_queue.specs.declared.queue.QueueRefused.TheVariants as queue
use Rattle.hub_ports.specs.Ports.{PortsData, port_at}
use Rattle.frame_types.specs.Refusals.{no_port, port_closed, port_full, table_full, empty}
use Rattle.frame_types.specs.declared.reply.Refusal.{Refusal}
use Rattle.table_core.specs.Tables.{TableData}
use Rattle.hub_spec.specs.Past.{PastStep}
use Rattle.hub_spec.specs.Answers.{closed_port, full_port, full_table_for, nothing_waits, refused_if, too_many_rows, without_port}
use Rattle.hub_spec.specs.Limits.{max_waiting}
use Rattle.hub_spec.specs.Ports as ports
use Rattle.hub_spec.specs.Room.{rows_of_all, rows_with}
use Rattle.hub_spec.specs.Rows as rows
use Rattle.hub_views.specs.Tables.{HoldsTable}
use Rattle.hub_core.specs.Holding.{HoldsPorts}
use Rattle.hub_core.specs.Refusing.{first_refusal}
use Rattle.hub_core.specs.Rooms.{over, room_taken}
use Rattle.hub_core.proofs.Live.{all_waiting_is, not_kept, port_is, port_made, unused_is}
use Rattle.hub_core.proofs.RowOrders.{rows_of_all-IsPermutation, store_keyed}

-- ---- which ports are there

pub no_port_there : (kept : PortsData) (past : List PastStep) (port : ℕ) (rest : List (Option Refusal)) → HoldsPorts kept past → kept.made ≤ port
    → first_refusal (without_port past port ∷ rest) ≡ Some no_port
no_port_there kept past port rest h le =
    let out : ports.has_port past port ≡ false = le-ltb port (ports.ports past) (omega (arith, h.made)) in
    rw out refl

made_there : (past : List PastStep) (port : ℕ) (rest : List (Option Refusal)) → port < ports.ports past
    → first_refusal (without_port past port ∷ rest) ≡ first_refusal rest
made_there past port rest lt = let has : ports.has_port past port ≡ true = lt-ltb port (ports.ports past) lt in rw has refl

-- a port that is kept was made
kept_there : (kept : PortsData) (past : List PastStep) (place port : ℕ) (rest : List (Option Refusal)) → HoldsPorts kept past → place < length kept.live
    → (port_at kept.live place).number ≡ port → first_refusal (without_port past port ∷ rest) ≡ first_refusal rest
kept_there kept past place port rest h lt at =
    made_there past port rest (
    elim (cases_lt port (ports.ports past)) as (λ _. port < ports.ports past) [
      | inl less ↦ less
      | inr le ↦ absurd (port_made past kept place h lt (subst (λ p. ports.ports past ≤ p) (sym at) le))
    ])

-- a port that was made and is not kept is closed, and nothing waits on it
pub gone_closed : (kept : PortsData) (past : List PastStep) (port : ℕ) → HoldsPorts kept past → port < kept.made → list_any (λ p. eqb p.number port) kept.live ≡ false
    → first_refusal (without_port past port ∷ closed_port past port ∷ []) ≡ Some port_closed
gone_closed kept past port h lt none =
    let gone = (unused_is past port (not_kept past kept port h lt none)).0 in
    made_there past port (closed_port past port ∷ []) (omega (arith, h.made)) ∙ (rw gone refl)

pub gone_empty : (kept : PortsData) (past : List PastStep) (port : ℕ) → HoldsPorts kept past → port < kept.made → list_any (λ p. eqb p.number port) kept.live ≡ false
    → first_refusal (without_port past port ∷ nothing_waits past port ∷ []) ≡ Some empty
gone_empty kept past port h lt none =
    let gone = (unused_is past port (not_kept past kept port h lt none)).1 in
    made_there past port (nothing_waits past port ∷ []) (omega (arith, h.made)) ∙ (rw gone refl)

-- ---- the port at a place

pub closed_is : (kept : PortsData) (past : List PastStep) (place port : ℕ) → HoldsPorts kept past → place < length kept.live → (port_at kept.live place).number ≡ port
    → first_refusal (without_port past port ∷ closed_port past port ∷ []) ≡ first_refusal (refused_if (port_at kept.live place).queue.closed port_closed ∷ [])
closed_is kept past place port h lt at =
    let shut : ports.is_closed past port ≡ (port_at kept.live place).queue.closed =
    ap (ports.is_closed past) (sym at) ∙ sym (ap (λ p. p.queue.closed) (port_is past kept place h lt).0) in
    kept_there kept past place port (closed_port past port ∷ []) h lt at ∙ ap (λ b. first_refusal (refused_if b port_closed ∷ [])) shut

pub waits_is : (kept : PortsData) (past : List PastStep) (place port : ℕ) → HoldsPorts kept past → place < length kept.live → (port_at kept.live place).number ≡ port
    → ports.waiting past port ≡ (port_at kept.live place).queue.waiting
waits_is kept past place port h lt at = ap (ports.waiting past) (sym at) ∙ sym (ap (λ p. p.queue.waiting) (port_is past kept place h lt).0)

pub empty_is : (kept : PortsData) (past : List PastStep) (place port : ℕ) → HoldsPorts kept past → place < length kept.live → (port_at kept.live place).number ≡ port
    → first_refusal (without_port past port ∷ nothing_waits past port ∷ []) ≡ first_refusal (refused_if (eqb (length (port_at kept.live place).queue.waiting) 0) empty ∷ [])
empty_is kept past place port h lt at =
    kept_there kept past place port (nothing_waits past port ∷ []) h lt at
    ∙ ap (λ (ws : List Batch). first_refusal (refused_if (eqb (length ws) 0) empty ∷ [])) (waits_is kept past place port h lt at)

pub full_is : (kept : PortsData) (past : List PastStep) (place : ℕ) → HoldsPorts kept past → place < length kept.live
    → full_port past (port_at kept.live place).number ≡ refused_if (leb max_waiting (length (port_at kept.live place).queue.waiting)) port_full
full_is kept past place h lt = ap (λ (ws : List Batch). refused_if (leb max_waiting (length ws)) port_full) (waits_is kept past place _ h lt refl)

pub front_waits : {X : Type 0} (xs : List X) (x : X) → slice_get xs 0 ≡ Some x → eqb (length xs) 0 ≡ false
front_waits [] x e = absurd (cc)
front_waits (y ∷ ys) x e = ne_eqb (length (y ∷ ys)) 0 (λ same. absurd (omega (arith, same)))

pub none_waits : {X : Type 0} (xs : List X) → slice_get xs 0 ≡ None → eqb (length xs) 0 ≡ true
none_waits [] e = refl
none_waits (x ∷ xs) e = absurd (cc)

-- ---- room for the rows of a batch more

-- the table's rows are the history's in some order
pub room_is : (t : TableData) (version : ℕ) (kept : PortsData) (past : List PastStep) (b : Batch) → HoldsTable t version past → HoldsPorts kept past
    → full_table_for past (Some b) ≡ too_many_rows (room_taken t kept b)
room_is t version kept past b h p =
    let keeping : (rows.schema_or_none past).keeping ≡ t.schema.keeping = ap (λ o. (unwrap_or o rows.no_schema).keeping) h.schema in
    ap too_many_rows (
    ap (λ k. rows_with k past b) keeping
    ∙ rows_of_all-IsPermutation t.schema.keeping (rows.rows past) t.store.pairs (ports.all_waiting past ++ b ∷ []) (store_keyed past).0 h.rows.pairs
    ∙ ap (λ ws. rows_of_all t.schema.keeping t.store.pairs (ws ++ b ∷ [])) (all_waiting_is past kept p))

pub over_some : (n would : ℕ) → over n ≡ Some would → too_many_rows n ≡ Some (table_full would)
over_some n would e = by (ltb max_rows n) e
  where
    by : (b : Bool) → (if b then Some n else None) ≡ Some would → refused_if b (table_full n) ≡ Some (table_full would)
    by true f = let same : n ≡ would = cc in ap (λ k. Some (table_full k)) same
    by false f = absurd (cc)

pub over_none : (n : ℕ) → over n ≡ None → too_many_rows n ≡ None
over_none n e = by (ltb max_rows n) e
  where
    by : (b : Bool) → (if b then Some n else None) ≡ None → refused_if b (table_full n) ≡ None
    by true f = absurd (let wrong : Some n ≡ None = f in cc)
    by false f = refl

-- ---- a batch is put on an open port that is not full

pub not_refused : (b : Bool) (why : Refusal) → refused_if b why ≡ None → b ≡ false
not_refused true why none = absurd (let wrong : Some why ≡ None = none in cc)
not_refused false why none = refl

pub put_open : (kept : PortsData) (place seq : ℕ) (b : Batch) → (port_at kept.live place).queue.closed ≡ false → leb max_waiting (length (port_at kept.live place).queue.waiting) ≡ false
    → put_outcome (port_at kept.live place).queue b ≡ Ok seq → seq ≡ (port_at kept.live place).queue.accepted + 1
put_open kept place seq b is_open room out =
    let next : ℕ = (port_at kept.live place).queue.accepted + 1 in
    let is : put_outcome (port_at kept.live place).queue b ≡ Ok next = rw (is_open, room) refl in
    let same : (let found : Result ℕ (QueueRefused × Batch) = Ok next in found ≡ Ok seq) = sym is ∙ out in
    let equal : next ≡ seq = cc in
    sym equal
