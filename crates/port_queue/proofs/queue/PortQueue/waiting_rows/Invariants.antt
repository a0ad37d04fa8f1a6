use Rattle.std.proofs.Common.{◌≡◌, ◌*◌, ◌≤◌, take, sum_by}
use Rattle.row_batch.specs.Batches.{rows_in}
use Rattle.port_queue.proofs.queue.PortQueue.waiting_rows.Given as goal

abbrev pub invariant-loop-i : goal.invariant-loop-i
invariant-loop-i l = (l.rows ≡ sum_by rows_in (take l.i l.self.waiting)) × (l.rows ≤ 1024 * l.i)
