-- The batches that wait on ports, one port more at a time.
use Rattle.std.proofs.Common.{◌≡◌, ℕ, ◌+◌, ◌<◌, List, [], ◌∷◌, ◌++◌, length, take, sum_by, ap, ◌∙◌, append-nil, length-append}
use Rattle.std.proofs.lemmas.List.{take_more}
use Rattle.std.proofs.lemmas.List.Concat.{flat_map-append}
use Rattle.std.proofs.lemmas.List.Sums.{sum_by-append}
use Rattle.row_batch.specs.Batches.{rows_in}
use Rattle.hub_ports.specs.Ports.{port_at, port_of, waiting_on}
use Rattle.port_queue.specs.Queues.{empty_queue}
use Rattle.hub_ports.specs.declared.ports.Port.{Port}

pub waiting_on-more : (live : List Port) (i : ℕ) → i < length live
    → waiting_on (take (i + 1) live) ≡ waiting_on (take i live) ++ (port_at live i).queue.waiting
waiting_on-more live i lt =
    ap waiting_on (take_more live i (port_of 0 empty_queue) lt)
    ∙ flat_map-append (λ p. p.queue.waiting) (take i live) (port_at live i ∷ [])
    ∙ ap (λ bs. waiting_on (take i live) ++ bs) (append-nil (port_at live i).queue.waiting)

pub batches-more : (live : List Port) (i : ℕ) → i < length live
    → length (waiting_on (take (i + 1) live)) ≡ length (waiting_on (take i live)) + length (port_at live i).queue.waiting
batches-more live i lt = ap length (waiting_on-more live i lt) ∙ length-append (waiting_on (take i live)) (port_at live i).queue.waiting

pub rows-more : (live : List Port) (i : ℕ) → i < length live
    → sum_by rows_in (waiting_on (take (i + 1) live)) ≡ sum_by rows_in (waiting_on (take i live)) + sum_by rows_in (port_at live i).queue.waiting
rows-more live i lt = ap (sum_by rows_in) (waiting_on-more live i lt) ∙ sum_by-append rows_in (waiting_on (take i live)) (port_at live i).queue.waiting
