-- What was read and written, and what the caller stands for, for each way in which a script ends.
use Rattle.std.specs.Prelude.{◌≡◌, ℕ, ◌+◌, ◌^◌, ◌≤◌, List, length, take, Option, ◌⊎◌}
use Rattle.std.specs.Io.KnownBytes.{Appends, Consumes, IsAtEnd}
use Rattle.io_ends.specs.Lines.{lines, ended_lines}
use Rattle.hub_spec.specs.Histories.{Entry}
use Rattle.session_core.specs.Script.{AnswersLines, AnswersFirstLines}
use Rattle.session_core.specs.declared.script.ScriptEnd.{ScriptEnd}
use Rattle.session_core.specs.declared.script.ScriptEnd.TheVariants.{Done, Memory, TooLong, ReadFault, WriteFault}

-- the source gave these bytes in the call, the sink took those, and they have this property
abbrev pub Moved : Option (List ℕ) → Option (List ℕ) → Option (List ℕ) → Option (List ℕ) → (List ℕ → List ℕ → Type 0) → Type 0
Moved left0 left1 written0 written1 P =
    (given : List ℕ) × (out : List ℕ) × Consumes left0 left1 given × Appends written0 written1 out × P given out

-- the lines so far have the property: those that ended, and an unended rest only where the source has
-- nothing left
abbrev pub LinesSoFar : Option (List ℕ) → List ℕ → (List (List ℕ) → Type 0) → Type 0
LinesSoFar left given P = P (ended_lines given) ⊎ (IsAtEnd left × P (lines given))

-- the lines are answered, and the history that the replies tell has the property
abbrev pub AnswersAll : (List Entry → Type 0) → List ℕ → List (List ℕ) → Type 0
AnswersAll Stands out ls = (answers : AnswersLines ls out) × Stands answers.after

-- the first of the lines are answered, and the history with the step whose reply line is cut short has
-- the property
abbrev pub AnswersFirst : (List Entry → Type 0) → List ℕ → List (List ℕ) → Type 0
AnswersFirst Stands out ls = (answers : AnswersFirstLines ls out) × Stands answers.now

-- at the end all lines are answered; after a fault of the source, and past the limit, those that
-- ended within the bytes; after a fault of the sink, and without memory, the first of the lines so far.
-- `Stands` says for which histories the caller stands at the end
abbrev pub Outcome : ScriptEnd → Option (List ℕ) → (List Entry → Type 0) → List ℕ → List ℕ → Type 0
Outcome (Done count) left Stands given out = IsAtEnd left × AnswersAll Stands out (lines given) × (count ≡ length (lines given)) × (length given ≤ 2 ^ 30)
Outcome ReadFault left Stands given out = AnswersAll Stands out (ended_lines given) × (length given ≤ 2 ^ 30)
Outcome TooLong left Stands given out = AnswersAll Stands out (ended_lines (take (2 ^ 30) given)) × (length given ≡ 2 ^ 30 + 1)
Outcome WriteFault left Stands given out = LinesSoFar left given (AnswersFirst Stands out) × (length given ≤ 2 ^ 30)
Outcome Memory left Stands given out = LinesSoFar left given (AnswersFirst Stands out) × (length given ≤ 2 ^ 30)
