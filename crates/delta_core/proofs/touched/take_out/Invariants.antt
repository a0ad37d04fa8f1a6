use Rattle.std.proofs.Common.{◌≡◌, map, vec_len}
use Rattle.delta_core.specs.DirtySets.{without}
use Rattle.delta_core.proofs.touched.take_out.Given as goal

abbrev pub invariant-loop-key : goal.invariant-loop-key
invariant-loop-key l =
    without (map (λ k. k.now) l.added.items) l.keys.entries ≡ without (map (λ k. k.now) l.initial.added.items) l.initial.keys.entries

abbrev pub decreases-loop-key : goal.decreases-loop-key
decreases-loop-key l = vec_len l.added
