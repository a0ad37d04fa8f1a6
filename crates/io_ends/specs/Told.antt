-- A fact of what an end tells before and after a call, where it tells anything.
use Rattle.std.specs.Prelude.{ℕ, List, Option, None, Some}

-- an end that tells nothing owes nothing; one that told still tells, and the fact holds of both
abbrev pub Told : Option (List ℕ) → Option (List ℕ) → (List ℕ → List ℕ → Type 0) → Type 0
Told None after P = Unit {0}
Told (Some before) None P = ⊥
Told (Some before) (Some after) P = P before after
