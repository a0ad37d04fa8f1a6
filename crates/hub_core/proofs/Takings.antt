-- The batches that wait stay such as the table takes.
use Rattle.std.proofs.Common.{◌≡◌, ℕ, zero, suc, ◌<◌, true, false, List, [], ◌∷◌, length, All, Some, subst}
use Rattle.std.specs.Prelude.{slice_get, remove, if◌then◌else◌}
use Rattle.std.proofs.lemmas.List.Elements.{All-nil, All-cons, All-head, All-tail, All-push, All-set, All-get_or, All-drop}
use Rattle.cell_core.specs.Schemas.{SchemaData}
use Rattle.row_batch.specs.declared.batch.Batch.{Batch}
use Rattle.port_queue.specs.Queues.{QueueData, empty_queue, with_batch, without_first}
use Rattle.hub_ports.specs.Ports.{port_at, port_of, is_live, settled, with_queue, put_on, taken_off, closed, closed_at}
use Rattle.hub_ports.specs.declared.ports.Port.{Port}
use Rattle.row_batch.specs.Checks.{IsChecked}
use Rattle.hub_core.specs.Taken.{AreTaken}

abbrev AreTakenOn : SchemaData → Port → Type 0
AreTakenOn schema p = All (IsChecked schema) p.queue.waiting

at_place : (schema : SchemaData) (live : List Port) (place : ℕ) → place < length live → AreTaken schema live → AreTakenOn schema (port_at live place)
at_place schema live place lt all = All-get_or (AreTakenOn schema) live place (port_of 0 empty_queue) lt all

first_is : (P : Batch → Type 0) (bs : List Batch) (b : Batch) → slice_get bs 0 ≡ Some b → All P bs → P b
first_is P [] b e all = absurd (cc)
first_is P (x ∷ xs) b e all = let same : x ≡ b = cc in subst P same (All-head P x xs all)

-- the oldest batch of a port
pub front_taken : (schema : SchemaData) (live : List Port) (place : ℕ) (b : Batch) → place < length live → AreTaken schema live
    → slice_get (port_at live place).queue.waiting 0 ≡ Some b → IsChecked schema b
front_taken schema live place b lt all e = first_is (IsChecked schema) (port_at live place).queue.waiting b e (at_place schema live place lt all)

-- ---- one port changed

all_removed : {X : Type 0} (P : X → Type 0) (xs : List X) (i : ℕ) → All P xs → All P (remove xs i)
all_removed P [] zero all = All-nil P
all_removed P [] (suc i) all = All-nil P
all_removed P (x ∷ xs) zero all = All-tail P x xs all
all_removed P (x ∷ xs) (suc i) all = All-cons P x (remove xs i) (All-head P x xs all) (all_removed P xs i (All-tail P x xs all))

settled_taken : (schema : SchemaData) (live : List Port) (place : ℕ) → AreTaken schema live → AreTaken schema (settled live place)
settled_taken schema live place all =
    elim (is_live (port_at live place)) as (λ b. AreTaken schema (if b then live else remove live place)) [
      | true ↦ all
      | false ↦ all_removed (AreTakenOn schema) live place all
    ]

queue_taken : (schema : SchemaData) (live : List Port) (place : ℕ) (q : QueueData) → AreTaken schema live → All (IsChecked schema) q.waiting
    → AreTaken schema (with_queue live place q)
queue_taken schema live place q all here = All-set (AreTakenOn schema) live place (port_of (port_at live place).number q) here all

pub put_taken : (schema : SchemaData) (live : List Port) (place : ℕ) (b : Batch) → place < length live → AreTaken schema live → IsChecked schema b
    → AreTaken schema (put_on live place b)
put_taken schema live place b lt all one =
    queue_taken schema live place (with_batch (port_at live place).queue b) all
    (All-push (IsChecked schema) (port_at live place).queue.waiting b (at_place schema live place lt all) one)

pub off_taken : (schema : SchemaData) (live : List Port) (place : ℕ) → place < length live → AreTaken schema live → AreTaken schema (taken_off live place)
off_taken schema live place lt all =
    let q = without_first (port_at live place).queue in
    settled_taken schema (with_queue live place q) place
    (queue_taken schema live place q all (All-drop (IsChecked schema) 1 (port_at live place).queue.waiting (at_place schema live place lt all)))

pub closed_taken : (schema : SchemaData) (live : List Port) (place : ℕ) → place < length live → AreTaken schema live → AreTaken schema (closed_at live place)
closed_taken schema live place lt all =
    let q = closed (port_at live place).queue in
    settled_taken schema (with_queue live place q) place (queue_taken schema live place q all (at_place schema live place lt all))
