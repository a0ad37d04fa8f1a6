use Rattle.std.proofs.Common.{◌≡◌, map}
use Rattle.delta_core.specs.DirtySets.{joined, without}
use Rattle.delta_core.proofs.touched.add_all.Given as goal

abbrev pub invariant-loop-key : goal.invariant-loop-key
invariant-loop-key l =
    (joined l.keys.entries l.key-iterator ≡ joined l.initial.keys.entries l.initial.key-iterator)
    × (without (map (λ k. k.now) l.added.items) l.keys.entries ≡ without (map (λ k. k.now) l.initial.added.items) l.initial.keys.entries)
