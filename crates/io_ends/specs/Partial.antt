-- What the kept front of a line stands for.
use Rattle.std.specs.Prelude.{◌≡◌, ℕ, ◌<◌, ◌≤◌, List, length, MatchBool}
use Rattle.io_ends.specs.declared.partial.Partial.{Partial}

-- the text that was read so far: kept whole, or not at all once it has more than `longest` bytes
abbrev pub Stands : ℕ → List ℕ → Partial → Type 0
Stands longest text front = MatchBool front.long (longest < length text) ((front.text.items ≡ text) × (length text ≤ longest))
