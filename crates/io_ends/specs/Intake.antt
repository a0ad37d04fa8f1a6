-- The bytes that the reader's buffer holds, and what a step takes of them.
use Rattle.std.specs.Prelude.{◌≡◌, ℕ, ◌-◌, ◌<◌, Bool, true, false, List, [], ◌∷◌, ◌++◌, length, take, drop, Option, MatchBool}
use Rattle.std.specs.Io.KnownBytes.{IsAtEnd}
use Rattle.io_ends.specs.Lines.{NoEnd}
use Rattle.io_ends.specs.Partial.{Stands}
use Rattle.io_ends.specs.declared.intake.Intake.{Intake}
use Rattle.io_ends.specs.declared.partial.Partial.{Partial}

abbrev pub held : Intake → List ℕ
held intake = take (intake.to - intake.from) (drop intake.from intake.chunk.items)

-- the line's front grew by a part without a line's end: the part up to the end of the line, which is dropped, or all that was held
pub record TakesPart (longest : ℕ) (before after : List ℕ) (old new : Partial) (whole : Bool) : Type 0 where
  pub part : List ℕ
  pub no_end : NoEnd part
  pub grows : (text : List ℕ) → Stands longest text old → Stands longest (text ++ part) new
  pub cut : MatchBool whole (before ≡ part ++ 10 ∷ after) ((before ≡ part) × (after ≡ []))

-- more came, or the source is at its end
abbrev pub Refilled : Bool → List ℕ → Bool → Option (List ℕ) → Type 0
Refilled true held ended left = (0 < length held) × (ended ≡ false)
Refilled false held ended left = (held ≡ []) × (ended ≡ true) × IsAtEnd left
