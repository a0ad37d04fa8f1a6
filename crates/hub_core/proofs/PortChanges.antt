-- What a step makes of the ports.
use Rattle.std.proofs.Common.{◌≡◌, ℕ, suc, zero, ◌+◌, ◌<◌, ◌≤◌, Bool, true, false, List, [], ◌∷◌, ◌++◌, length, map, filter, set, get_or, drop, Some, refl, sym, ap, ◌∙◌, inl, inr, arith, subst, length-append, length-drop, add-one}
use Rattle.std.specs.Prelude.{remove, if◌then◌else◌}
use Rattle.std.proofs.lemmas.Bool.{cases_eq, eq-eqb, ne_eqb}
use Rattle.std.proofs.lemmas.List.{map-append, drop-append-le, drop-drop}
use Rattle.std.proofs.lemmas.List.Elements.{filter-append}
use Rattle.row_batch.specs.declared.batch.Batch.{Batch}
use Rattle.port_queue.specs.Queues.{empty_queue, with_batch, without_first}
use Rattle.hub_ports.specs.Ports.{PortsData, port_at, port_of, is_live, settled, put_on, taken_off, closed, closed_at, with_port}
use Rattle.hub_ports.specs.declared.ports.Port.{Port}
use Rattle.frame_types.specs.Asks.{Ask}
use Rattle.frame_types.specs.declared.reply.Body.TheVariants as body
use Rattle.hub_spec.specs.Past.{PastStep}
use Rattle.hub_spec.specs.Giving.{with_step}
use Rattle.hub_spec.specs.Ports as ports
use Rattle.hub_spec.specs.Reading.{batch_asked}
use Rattle.hub_core.specs.Holding.{HoldsPorts, kept_port}
use Rattle.hub_core.proofs.Live.{port_is, port_made}
use Rattle.hub_core.proofs.Numbers.{with_one, changed, numbers_differ}

-- ---- one port changed

set-here : {X : Type 0} (xs : List X) (i : ℕ) (y d : X) → i < length xs → get_or (set xs i y) i d ≡ y
set-here [] i y d lt = absurd (omega arith)
set-here (x ∷ xs) zero y d lt = refl
set-here (x ∷ xs) (suc i) y d lt = set-here xs i y d (omega arith)

remove-set : {X : Type 0} (xs : List X) (i : ℕ) (y : X) → remove (set xs i y) i ≡ remove xs i
remove-set [] i y = refl
remove-set (x ∷ xs) zero y = refl
remove-set (x ∷ xs) (suc i) y = ap (λ zs. x ∷ zs) (remove-set xs i y)

settled_by : (b : Bool) (live : List Port) (place : ℕ) (p : Port) → (if b then set live place p else remove (set live place p) place) ≡ with_one b live place p
settled_by true live place p = refl
settled_by false live place p = remove-set live place p

-- the ports with one in a place, which goes if it is used no more
settled_is : (live : List Port) (place : ℕ) (p : Port) → place < length live → settled (set live place p) place ≡ with_one (is_live p) live place p
settled_is live place p lt =
    ap (λ q. if is_live q then set live place p else remove (set live place p) place) (set-here live place p (port_of 0 empty_queue) lt)
    ∙ settled_by (is_live p) live place p

-- what is kept after a step that changed one port alone
live_after : (past now : List PastStep) (kept : PortsData) (place : ℕ) (p : Port) → HoldsPorts kept past → place < length kept.live
    → ports.ports now ≡ ports.ports past
    → ((q : ℕ) → (q ≡ (port_at kept.live place).number → ⊥) → kept_port now q ≡ kept_port past q)
    → kept_port now (port_at kept.live place).number ≡ p
    → with_one (is_live p) kept.live place p ≡ map (kept_port now) (filter (ports.is_used now) (ports.numbers_below (ports.ports now)))
live_after past now kept place p h lt same others here =
    let port = (port_at kept.live place).number in
    let ns = ports.numbers_below (ports.ports past) in
    let tests : (q : ℕ) → (q ≡ port → ⊥) → ports.is_used now q ≡ ports.is_used past q = λ q apart. ap is_live (others q apart) in
    sym (
    ap (λ k. map (kept_port now) (filter (ports.is_used now) (ports.numbers_below k))) same
    ∙ changed (ports.is_used past) (ports.is_used now) (kept_port past) (kept_port now) port ns place (numbers_differ (ports.ports past)) (port_is past kept place h lt).1 tests others
    ∙ ap (λ live. with_one (ports.is_used now port) live place (kept_port now port)) (sym h.live)
    ∙ ap (λ q. with_one (is_live q) kept.live place q) here)

-- ---- a batch is queued

accepted_here : (past : List PastStep) (session : ℕ) (request : Ask) (n version port seq : ℕ) (batch : Batch)
    → batch_asked (ports.schema past) request ≡ Some batch
    → ports.batches_accepted (with_step session request n version (body.Queued port seq) past) port ≡ ports.batches_accepted past port ++ batch ∷ []
accepted_here past session request n version port seq batch asked = rw (eq-eqb port port refl, asked) refl

accepted_else : (past : List PastStep) (session : ℕ) (request : Ask) (n version port seq p : ℕ) → (port ≡ p → ⊥)
    → ports.batches_accepted (with_step session request n version (body.Queued port seq) past) p ≡ ports.batches_accepted past p
accepted_else past session request n version port seq p other = rw (ne_eqb port p other) refl

abbrev port_data : ℕ → List Batch → ℕ → Bool → Port
port_data port waiting accepted shut = port_of port (record { waiting = waiting; accepted = accepted; closed = shut })

same_port : (p : ℕ) (a b : List Batch) (n m : ℕ) (c d : Bool) → a ≡ b → n ≡ m → c ≡ d → port_data p a n c ≡ port_data p b m d
same_port p a b n m c d e f g = cc

pub queued_ports : (kept : PortsData) (past : List PastStep) (session : ℕ) (request : Ask) (n version place seq : ℕ) (batch : Batch)
    → HoldsPorts kept past → place < length kept.live → (port_at kept.live place).queue.closed ≡ false
    → batch_asked (ports.schema past) request ≡ Some batch
    → HoldsPorts (record kept { live = put_on kept.live place batch }) (with_step session request n version (body.Queued (port_at kept.live place).number seq) past)
queued_ports kept past session request n version place seq batch h lt is_open asked =
    let port = (port_at kept.live place).number in
    let now : List PastStep = with_step session request n version (body.Queued port seq) past in
    let was : port_at kept.live place ≡ kept_port past port = (port_is past kept place h lt).0 in
    let here : ports.batches_accepted now port ≡ ports.batches_accepted past port ++ batch ∷ [] = accepted_here past session request n version port seq batch asked in
    let apart : (q : ℕ) → (q ≡ port → ⊥) → ports.batches_accepted now q ≡ ports.batches_accepted past q =
    λ q other. accepted_else past session request n version port seq q (λ e. other (sym e)) in
    let after : Port = port_of port (with_batch (port_at kept.live place).queue batch) in
    let waits : ports.waiting now port ≡ (port_at kept.live place).queue.waiting ++ batch ∷ [] =
    ap (drop (ports.taken_count past port)) here ∙ drop-append-le (ports.taken_count past port) (ports.batches_accepted past port) (batch ∷ []) (h.within port)
    ∙ ap (λ p. p.queue.waiting ++ batch ∷ []) (sym was) in
    let count : length (ports.batches_accepted now port) ≡ (port_at kept.live place).queue.accepted + 1 =
    ap length here ∙ length-append (ports.batches_accepted past port) (batch ∷ []) ∙ ap (λ p. p.queue.accepted + 1) (sym was) in
    let shut : ports.is_closed now port ≡ (port_at kept.live place).queue.closed = ap (λ p. p.queue.closed) (sym was) in
    let kept_here : kept_port now port ≡ after = same_port port _ _ _ _ _ _ waits count shut in
    let stays : is_live after ≡ true = rw is_open refl in
    record {
      made = h.made;
      live = ap (λ b. with_one b kept.live place after) (sym stays)
          ∙ live_after past now kept place after h lt refl
          (λ q other. same_port q _ _ _ _ _ _ (ap (drop (ports.taken_count past q)) (apart q other)) (ap length (apart q other)) refl) kept_here;
      within = λ q.
          elim (cases_eq port q) as (λ _. ports.taken_count past q ≤ length (ports.batches_accepted now q)) [
            | inl same ↦
                let At : ℕ → Type 0 = λ x. ports.taken_count past x ≤ length (ports.batches_accepted now x) in
                subst At same (omega (arith, h.within port, ap length here, length-append (ports.batches_accepted past port) (batch ∷ [])))
            | inr other ↦ omega (arith, h.within q, ap length (apart q (λ e. other (sym e))))
          ];
      unmade = λ q le.
          let other : q ≡ port → ⊥ = λ e. port_made past kept place h lt (subst (λ x. ports.ports past ≤ x) e le) in
          (apart q other ∙ (h.unmade q le).0, (h.unmade q le).1);
    }

-- ---- a batch is applied

taken_here : (past : List PastStep) (session : ℕ) (request : Ask) (n version port seq : ℕ)
    → ports.taken_count (with_step session request n version (body.Applied port seq) past) port ≡ ports.taken_count past port + 1
taken_here past session request n version port seq = rw (eq-eqb port port refl) refl

taken_else : (past : List PastStep) (session : ℕ) (request : Ask) (n version port seq p : ℕ) → (port ≡ p → ⊥)
    → ports.taken_count (with_step session request n version (body.Applied port seq) past) p ≡ ports.taken_count past p
taken_else past session request n version port seq p other = rw (ne_eqb port p other) refl

pub applied_ports : (kept : PortsData) (past : List PastStep) (session : ℕ) (request : Ask) (n version place seq : ℕ)
    → HoldsPorts kept past → place < length kept.live → 0 < length (port_at kept.live place).queue.waiting
    → HoldsPorts (record kept { live = taken_off kept.live place }) (with_step session request n version (body.Applied (port_at kept.live place).number seq) past)
applied_ports kept past session request n version place seq h lt some =
    let port = (port_at kept.live place).number in
    let now : List PastStep = with_step session request n version (body.Applied port seq) past in
    let was : port_at kept.live place ≡ kept_port past port = (port_is past kept place h lt).0 in
    let here : ports.taken_count now port ≡ ports.taken_count past port + 1 = taken_here past session request n version port seq in
    let apart : (q : ℕ) → (q ≡ port → ⊥) → ports.taken_count now q ≡ ports.taken_count past q =
    λ q other. taken_else past session request n version port seq q (λ e. other (sym e)) in
    let after : Port = port_of port (without_first (port_at kept.live place).queue) in
    let waits : ports.waiting now port ≡ drop 1 (port_at kept.live place).queue.waiting =
    ap (λ k. drop k (ports.batches_accepted past port)) here ∙ sym (drop-drop 1 (ports.taken_count past port) (ports.batches_accepted past port))
    ∙ ap (λ p. drop 1 p.queue.waiting) (sym was) in
    let kept_here : kept_port now port ≡ after =
    same_port port _ _ _ _ _ _ waits (ap (λ p. p.queue.accepted) (sym was)) (ap (λ p. p.queue.closed) (sym was)) in
    record {
      made = h.made;
      live = settled_is kept.live place after lt
          ∙ live_after past now kept place after h lt refl
          (λ q other. same_port q _ _ _ _ _ _ (ap (λ k. drop k (ports.batches_accepted past q)) (apart q other)) refl refl) kept_here;
      within = λ q.
          elim (cases_eq port q) as (λ _. ports.taken_count now q ≤ length (ports.batches_accepted past q)) [
            | inl same ↦
                let At : ℕ → Type 0 = λ x. ports.taken_count now x ≤ length (ports.batches_accepted past x) in
                subst At same (omega (arith, here, some, ap (λ p. length p.queue.waiting) was, length-drop (ports.taken_count past port) (ports.batches_accepted past port)))
            | inr other ↦ omega (arith, h.within q, apart q (λ e. other (sym e)))
          ];
      unmade = h.unmade;
    }

-- ---- a port is closed

closed_here : (past : List PastStep) (session : ℕ) (request : Ask) (n version port : ℕ)
    → ports.is_closed (with_step session request n version (body.PortClosed port) past) port ≡ true
closed_here past session request n version port = rw (eq-eqb port port refl) refl

closed_else : (past : List PastStep) (session : ℕ) (request : Ask) (n version port p : ℕ) → (port ≡ p → ⊥)
    → ports.is_closed (with_step session request n version (body.PortClosed port) past) p ≡ ports.is_closed past p
closed_else past session request n version port p other = rw (ne_eqb port p other) refl

pub closed_ports : (kept : PortsData) (past : List PastStep) (session : ℕ) (request : Ask) (n version place : ℕ)
    → HoldsPorts kept past → place < length kept.live
    → HoldsPorts (record kept { live = closed_at kept.live place }) (with_step session request n version (body.PortClosed (port_at kept.live place).number) past)
closed_ports kept past session request n version place h lt =
    let port = (port_at kept.live place).number in
    let now : List PastStep = with_step session request n version (body.PortClosed port) past in
    let was : port_at kept.live place ≡ kept_port past port = (port_is past kept place h lt).0 in
    let apart : (q : ℕ) → (q ≡ port → ⊥) → ports.is_closed now q ≡ ports.is_closed past q =
    λ q other. closed_else past session request n version port q (λ e. other (sym e)) in
    let after : Port = port_of port (closed (port_at kept.live place).queue) in
    let kept_here : kept_port now port ≡ after =
    same_port port _ _ _ _ _ _ (ap (λ p. p.queue.waiting) (sym was)) (ap (λ p. p.queue.accepted) (sym was)) (closed_here past session request n version port) in
    record {
      made = h.made;
      live = settled_is kept.live place after lt
          ∙ live_after past now kept place after h lt refl (λ q other. same_port q _ _ _ _ _ _ refl refl (apart q other)) kept_here;
      within = h.within;
      unmade = λ q le.
          let other : q ≡ port → ⊥ = λ e. port_made past kept place h lt (subst (λ x. ports.ports past ≤ x) e le) in
          ((h.unmade q le).0, apart q other ∙ (h.unmade q le).1);
    }

-- ---- a port is made

drop-none : (n : ℕ) → (let none : List Batch = [] in drop n none ≡ none)
drop-none zero = refl
drop-none (suc n) = refl

one_more : (past : List PastStep) (n : ℕ) → ports.is_used past n ≡ true
    → map (kept_port past) (filter (ports.is_used past) (ports.numbers_below (n + 1)))
    ≡ map (kept_port past) (filter (ports.is_used past) (ports.numbers_below n)) ++ kept_port past n ∷ []
one_more past n used =
    ap (λ k. map (kept_port past) (filter (ports.is_used past) (ports.numbers_below k))) (add-one n)
    ∙ ap (map (kept_port past)) (filter-append (ports.is_used past) (ports.numbers_below n) (n ∷ [])
    ∙ ap (λ b. filter (ports.is_used past) (ports.numbers_below n) ++ (if b then n ∷ [] else [])) used)
    ∙ map-append (kept_port past) (filter (ports.is_used past) (ports.numbers_below n)) (n ∷ [])

pub made_ports : (kept : PortsData) (past : List PastStep) (session : ℕ) (request : Ask) (n version port : ℕ)
    → HoldsPorts kept past → HoldsPorts (with_port kept) (with_step session request n version (body.Port port) past)
made_ports kept past session request n version port h =
    let next = ports.ports past in
    let bare = h.unmade next (omega arith) in
    let used : ports.is_used past next ≡ true = rw bare.1 refl in
    let waits : ports.waiting past next ≡ [] = ap (drop (ports.taken_count past next)) bare.0 ∙ drop-none (ports.taken_count past next) in
    let fresh : kept_port past next ≡ port_of kept.made empty_queue =
    same_port next _ _ _ _ _ _ waits (ap length bare.0) bare.1 ∙ ap (λ k. port_of k empty_queue) (sym h.made) in
    record {
      made = ap (λ k. k + 1) h.made;
      live = ap (λ live. live ++ port_of kept.made empty_queue ∷ []) h.live
          ∙ ap (λ p. map (kept_port past) (filter (ports.is_used past) (ports.numbers_below next)) ++ p ∷ []) (sym fresh)
          ∙ sym (one_more past next used);
      within = h.within;
      unmade = λ q le. h.unmade q (omega arith);
    }
