-- The queue of a port.
use Rattle.std.specs.Prelude.{ℕ, ◌+◌, ◌≤◌, nat_le, List, [], ◌∷◌, ◌++◌, length, drop, Bool, false, Result, Ok, Err, if◌then◌else◌}
use Rattle.row_batch.specs.Batches.{rows_in}
use Rattle.row_batch.specs.declared.batch.Batch.{Batch}
use Rattle.port_queue.specs.declared.queue.QueueRefused.{QueueRefused}
use Rattle.port_queue.specs.declared.queue.QueueRefused.TheVariants.{Closed, Full}

-- the batches that wait, the oldest first; how many were put in; whether the port was closed
pub record QueueData : Type 0 where
  pub waiting : List Batch
  pub accepted : ℕ
  pub closed : Bool

abbrev pub empty_queue : QueueData
empty_queue = record { waiting = []; accepted = 0; closed = false }

-- a batch has at most 1,024 rows
abbrev pub IsSmall : Batch → Type 0
IsSmall batch = rows_in batch ≤ 1024

-- the number of the batch, or why it comes back: the port was closed, or 64 batches wait
abbrev pub put_outcome : QueueData → Batch → Result ℕ (QueueRefused × Batch)
put_outcome q batch =
    if q.closed then Err (Closed, batch) else
    (if nat_le 64 (length q.waiting) then Err (Full, batch) else Ok (q.accepted + 1))

abbrev pub with_batch : QueueData → Batch → QueueData
with_batch q batch = record q { waiting = q.waiting ++ batch ∷ []; accepted = q.accepted + 1 }

abbrev pub without_first : QueueData → QueueData
without_first q = record q { waiting = drop 1 q.waiting }
