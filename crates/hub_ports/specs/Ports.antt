-- The ports that are open or hold waiting batches.
use Rattle.std.specs.Prelude.{◌≡◌, ℕ, ◌+◌, nat_lt, List, [], ◌∷◌, ◌++◌, length, Bool, true, not, ◌||◌, if◌then◌else◌, slice_set, slice_index_or, remove, Result, Ok, Err}
use Rattle.std.specs.List.{flat_map}
use Rattle.row_batch.specs.declared.batch.Batch.{Batch}
use Rattle.port_queue.specs.Queues.{QueueData, empty_queue, with_batch, without_first}
use Rattle.port_queue.specs.declared.queue.QueueRefused.{QueueRefused}
use Rattle.port_queue.specs.declared.queue.QueueRefused.TheVariants as queue
use Rattle.hub_ports.specs.declared.ports.Port.{Port}
use Rattle.hub_ports.specs.declared.ports.PutRefused.{PutRefused}
use Rattle.hub_ports.specs.declared.ports.PutRefused.TheVariants as refused

-- how many ports were made, and those that are still used
pub record PortsData : Type 0 where
  pub made : ℕ
  pub live : List Port

abbrev pub no_ports : PortsData
no_ports = record { made = 0; live = [] }

abbrev pub port_of : ℕ → QueueData → Port
port_of number queue = record { number = number; queue = queue }

abbrev pub with_port : PortsData → PortsData
with_port p = record { made = p.made + 1; live = p.live ++ port_of p.made empty_queue ∷ [] }

abbrev pub port_at : List Port → ℕ → Port
port_at live place = slice_index_or live place (port_of 0 empty_queue)

-- open, or a batch waits
abbrev pub is_live : Port → Bool
is_live p = not p.queue.closed || nat_lt 0 (length p.queue.waiting)

-- without the port at a place if it is used no more
abbrev pub settled : List Port → ℕ → List Port
settled live place = if is_live (port_at live place) then live else remove live place

abbrev pub with_queue : List Port → ℕ → QueueData → List Port
with_queue live place queue = slice_set live place (port_of (port_at live place).number queue)

abbrev pub put_on : List Port → ℕ → Batch → List Port
put_on live place batch = with_queue live place (with_batch (port_at live place).queue batch)

abbrev pub taken_off : List Port → ℕ → List Port
taken_off live place = settled (with_queue live place (without_first (port_at live place).queue)) place

abbrev pub closed : QueueData → QueueData
closed q = record q { closed = true }

abbrev pub closed_at : List Port → ℕ → List Port
closed_at live place = settled (with_queue live place (closed (port_at live place).queue)) place

-- the batches that wait on the ports, port by port
abbrev pub waiting_on : List Port → List Batch
waiting_on live = flat_map (λ p. p.queue.waiting) live

-- the answer is the queue's, but for want of numbers
abbrev pub PutAnswers : Result ℕ (QueueRefused × Batch) → Batch → Result ℕ PutRefused → Type 0
PutAnswers outcome batch (Ok seq) = outcome ≡ Ok seq
PutAnswers outcome batch (Err refused.Closed) = outcome ≡ Err (queue.Closed, batch)
PutAnswers outcome batch (Err refused.Full) = outcome ≡ Err (queue.Full, batch)
PutAnswers outcome batch (Err refused.Memory) = Unit {0}
