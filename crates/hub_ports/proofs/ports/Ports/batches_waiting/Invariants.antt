use Rattle.std.proofs.Common.{◌≡◌, ◌*◌, ◌≤◌, length, take}
use Rattle.hub_ports.specs.Ports.{waiting_on}
use Rattle.hub_ports.proofs.ports.Ports.batches_waiting.Given as goal

abbrev pub invariant-loop-port : goal.invariant-loop-port
invariant-loop-port l = (l.batches ≡ length (waiting_on (take l.port-index l.self.live))) × (l.batches ≤ 64 * l.port-index)
