use Rattle.std.proofs.Common.{◌≡◌, drop}
use Rattle.delta_core.specs.Folding.{keys_put}
use Rattle.delta_core.specs.KeySets.{with_keys}
use Rattle.delta_core.proofs.checking.add_keys_put.Given as goal

abbrev pub invariant-loop-put : goal.invariant-loop-put
invariant-loop-put l = with_keys l.keys.keys (keys_put (drop l.put-index l.puts)) ≡ with_keys l.initial.keys.keys (keys_put l.puts)
