use Rattle.std.proofs.Common.{◌≡◌, ◌+◌, drop}
use Rattle.delta_core.specs.Preparing.{past_after}
use Rattle.delta_core.proofs.checking.first_past.Given as goal

abbrev pub invariant-loop-put : goal.invariant-loop-put
invariant-loop-put l = (l.size ≡ l.count + l.put-index) × (past_after l.size (drop l.put-index l.puts) ≡ past_after l.count l.puts)
