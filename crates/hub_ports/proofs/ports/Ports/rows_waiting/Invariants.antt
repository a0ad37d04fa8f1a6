use Rattle.std.proofs.Common.{◌≡◌, ◌*◌, ◌≤◌, sum_by, take}
use Rattle.row_batch.specs.Batches.{rows_in}
use Rattle.hub_ports.specs.Ports.{waiting_on}
use Rattle.hub_ports.proofs.ports.Ports.rows_waiting.Given as goal

abbrev pub invariant-loop-port : goal.invariant-loop-port
invariant-loop-port l = (l.rows ≡ sum_by rows_in (waiting_on (take l.port-index l.self.live))) × (l.rows ≤ 65536 * l.port-index)
