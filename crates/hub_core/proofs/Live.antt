-- The ports that are kept, beside those that a history has.
use Rattle.std.proofs.Common.{◌≡◌, ℕ, suc, zero, ◌<◌, ◌≤◌, eqb, ltb, Bool, true, false, ◌||◌, List, [], ◌∷◌, ◌++◌, length, map, filter, get_or, Some, refl, sym, ap, ◌∙◌, inl, inr, arith}
use Rattle.std.specs.Prelude.{slice_get, not, if◌then◌else◌}
use Rattle.std.specs.List.{flat_map, list_any}
use Rattle.std.proofs.lemmas.Bool.{cases_eq, eq-eqb, lt-ltb}
use Rattle.std.proofs.lemmas.List.{length-map}
use Rattle.std.proofs.lemmas.Option.{slice_get-get_or}
use Rattle.port_queue.specs.Queues.{empty_queue}
use Rattle.hub_ports.specs.Ports.{PortsData, port_at, port_of, waiting_on}
use Rattle.hub_ports.specs.declared.ports.Port.{Port}
use Rattle.hub_spec.specs.Past.{PastStep}
use Rattle.hub_spec.specs.Ports as ports
use Rattle.hub_core.specs.Holding.{HoldsPorts, kept_port}
use Rattle.hub_core.proofs.Numbers.{Lacks, numbers_have, numbers_lack, lacks_at}

-- ---- places

get_or-map : {X Y : Type 0} (f : X → Y) (xs : List X) (i : ℕ) (x : X) (y : Y) → i < length xs → get_or (map f xs) i y ≡ f (get_or xs i x)
get_or-map f [] i x y lt = absurd (omega arith)
get_or-map f (z ∷ zs) zero x y lt = refl
get_or-map f (z ∷ zs) (suc i) x y lt = get_or-map f zs i x y (omega arith)

-- the port at a place is what is kept of a used one
pub port_is : (past : List PastStep) (kept : PortsData) (place : ℕ) → HoldsPorts kept past → place < length kept.live
    → (port_at kept.live place ≡ kept_port past (port_at kept.live place).number)
    × (slice_get (ports.used_ports past) place ≡ Some (port_at kept.live place).number)
port_is past kept place h lt =
    let used = ports.used_ports past in
    let size : length kept.live ≡ length used = ap length h.live ∙ length-map used (kept_port past) in
    let within : place < length used = omega (arith, size) in
    let at : port_at kept.live place ≡ kept_port past (get_or used place 0) =
    ap (λ ps. port_at ps place) h.live ∙ get_or-map (kept_port past) used place 0 (port_of 0 empty_queue) within in
    let number : (port_at kept.live place).number ≡ get_or used place 0 = ap (λ p. p.number) at in
    (at ∙ ap (kept_port past) (sym number), slice_get-get_or used place 0 within ∙ ap (λ k. Some k) (sym number))

-- a port that is kept was made
pub port_made : (past : List PastStep) (kept : PortsData) (place : ℕ) → HoldsPorts kept past → place < length kept.live
    → (ports.ports past ≤ (port_at kept.live place).number) → ⊥
port_made past kept place h lt le =
    let port = (port_at kept.live place).number in
    lacks_at (ports.is_used past) port port (ports.numbers_below (ports.ports past)) place (numbers_lack (ports.ports past) port le) (port_is past kept place h lt).1 refl

-- ---- a port that is not kept is used no more

or_false : (a b : Bool) → (a || b) ≡ false → (a ≡ false) × (b ≡ false)
or_false true b h = cc
or_false false b h = (refl, h)

abbrev Finds : ℕ → Port → Bool
Finds port p = eqb p.number port

missing_by : (past : List PastStep) (port n : ℕ) (ns : List ℕ) (b : Bool) → ports.is_used past n ≡ b
    → list_any (Finds port) (map (kept_port past) (if b then n ∷ filter (ports.is_used past) ns else filter (ports.is_used past) ns)) ≡ false
    → (Lacks port (n ∷ ns) → ⊥)
    → (list_any (Finds port) (map (kept_port past) (filter (ports.is_used past) ns)) ≡ false → (Lacks port ns → ⊥) → ports.is_used past port ≡ false)
    → ports.is_used past port ≡ false
missing_by past port n ns true is none has ih =
    let parts = or_false (eqb n port) (list_any (Finds port) (map (kept_port past) (filter (ports.is_used past) ns))) none in
    let apart : n ≡ port → ⊥ = λ e. absurd (let wrong : true ≡ false = sym (eq-eqb n port e) ∙ parts.0 in cc) in
    ih parts.1 (λ l. has (apart, l))
missing_by past port n ns false is none has ih =
    elim (cases_eq n port) as (λ _. ports.is_used past port ≡ false) [
      | inl same ↦ ap (ports.is_used past) (sym same) ∙ is
      | inr other ↦ ih none (λ l. has (other, l))
    ]

missing : (past : List PastStep) (port : ℕ) (ns : List ℕ)
    → list_any (Finds port) (map (kept_port past) (filter (ports.is_used past) ns)) ≡ false → (Lacks port ns → ⊥) → ports.is_used past port ≡ false
missing past port [] none has = absurd (has tt)
missing past port (n ∷ ns) none has =
    missing_by past port n ns (ports.is_used past n) refl none has (missing past port ns)

pub not_kept : (past : List PastStep) (kept : PortsData) (port : ℕ) → HoldsPorts kept past → port < kept.made
    → list_any (λ p. eqb p.number port) kept.live ≡ false → ports.is_used past port ≡ false
not_kept past kept port h lt none =
    let made : port < ports.ports past = omega (arith, h.made) in
    missing past port (ports.numbers_below (ports.ports past)) (ap (list_any (Finds port)) (sym h.live) ∙ none) (numbers_have (ports.ports past) port made)

no_items : {X : Type 0} (xs : List X) → ltb 0 (length xs) ≡ false → xs ≡ []
no_items [] h = refl
no_items (x ∷ xs) h = absurd (let wrong : true ≡ false = sym (lt-ltb 0 (length (x ∷ xs)) (omega arith)) ∙ h in cc)

not_false : (b : Bool) → not b ≡ false → b ≡ true
not_false true h = refl
not_false false h = absurd (cc)

pub unused_is : (past : List PastStep) (port : ℕ) → ports.is_used past port ≡ false → (ports.is_closed past port ≡ true) × (ports.waiting past port ≡ [])
unused_is past port h =
    let parts = or_false (not (ports.is_closed past port)) (ltb 0 (length (ports.waiting past port))) h in
    (not_false (ports.is_closed past port) parts.0, no_items (ports.waiting past port) parts.1)

-- ---- the batches that wait

waits_by : (past : List PastStep) (n : ℕ) (ns : List ℕ) (b : Bool) → ports.is_used past n ≡ b
    → flat_map (ports.waiting past) ns ≡ waiting_on (map (kept_port past) (filter (ports.is_used past) ns))
    → ports.waiting past n ++ flat_map (ports.waiting past) ns
    ≡ waiting_on (map (kept_port past) (if b then n ∷ filter (ports.is_used past) ns else filter (ports.is_used past) ns))
waits_by past n ns true is ih = ap (λ bs. ports.waiting past n ++ bs) ih
waits_by past n ns false is ih = ap (λ bs. bs ++ flat_map (ports.waiting past) ns) (unused_is past n is).1 ∙ ih

waits : (past : List PastStep) (ns : List ℕ) → flat_map (ports.waiting past) ns ≡ waiting_on (map (kept_port past) (filter (ports.is_used past) ns))
waits past [] = refl
waits past (n ∷ ns) = waits_by past n ns (ports.is_used past n) refl (waits past ns)

pub all_waiting_is : (past : List PastStep) (kept : PortsData) → HoldsPorts kept past → ports.all_waiting past ≡ waiting_on kept.live
all_waiting_is past kept h = waits past (ports.numbers_below (ports.ports past)) ∙ ap waiting_on (sym h.live)
