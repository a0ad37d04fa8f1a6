use Rattle.std.proofs.Common.{◌≡◌, ◌+◌, ◌≤◌, drop}
use Rattle.table_core.specs.Lookups.{puts_in}
use Rattle.table_core.proofs.lookup.puts.Given as goal

abbrev pub invariant-loop-i : goal.invariant-loop-i
invariant-loop-i l = (l.count + puts_in (drop l.i l.finals.entries) ≡ puts_in l.finals.entries) × (l.count ≤ l.i)
