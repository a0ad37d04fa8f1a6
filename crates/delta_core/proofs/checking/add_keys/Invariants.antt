use Rattle.std.proofs.Common.{◌≡◌, drop}
use Rattle.delta_core.specs.KeySets.{with_keys}
use Rattle.delta_core.proofs.checking.add_keys.Given as goal

abbrev pub invariant-loop-key : goal.invariant-loop-key
invariant-loop-key l = with_keys l.keys.keys (drop l.key-index l.more) ≡ with_keys l.initial.keys.keys l.more
