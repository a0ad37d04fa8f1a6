-- What a notice does to a hook, whatever its kind.
use Rattle.std.specs.Prelude.{ℕ, ◌+◌, ◌-◌, ◌^◌, min}
use Rattle.update_hooks.specs.declared.hook.TalliedHook.{TalliedHook}

-- the next value of a counter, which stands still at the last value of its type
abbrev pub one_more : ℕ → ℕ
one_more n = min (n + 1) (2 ^ 64 - 1)

-- a hook that heard one notice more: its state after its own step, and counted
abbrev pub heard : {H : Type 0} → (H → H) → TalliedHook H → TalliedHook H
heard after told = record { hook = after told.hook; tally = one_more told.tally }
