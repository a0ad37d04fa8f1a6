-- A script that is underway: what was read, answered and written so far.
use Rattle.std.specs.Prelude.{◌≡◌, ℕ, ◌+◌, ◌<◌, ◌≤◌, Bool, List, [], ◌++◌, map, take, length, Option, MatchBool, if◌then◌else◌}
use Rattle.std.specs.Io.KnownBytes.{Appends, Consumes, IsAtEnd}
use Rattle.io_ends.specs.Lines.{lines, ended_lines}
use Rattle.io_ends.specs.Reading.{ReaderState}
use Rattle.frame_types.specs.Asks.{Ask}
use Rattle.frame_types.specs.declared.reply.Reply.{Reply}
use Rattle.hub_spec.specs.Histories.{Entry}
use Rattle.hub_spec.specs.Runs.{AnswersOneStep, AreAnswers}
use Rattle.session_core.specs.Script.{asked_of, reply_line, reply_lines, script_limit}

-- the lines of what came so far, and of whatever comes: those that were cut off, and then those of
-- what is held; at the end they were all cut off
abbrev pub Cut : Bool → List ℕ → Option (List ℕ) → List ℕ → List (List ℕ) → Type 0
Cut ended held left came done =
    MatchBool ended ((lines came ≡ done) × (held ≡ []) × IsAtEnd left)
    ((more : List ℕ) → (lines (came ++ more) ≡ done ++ lines (held ++ more)) × (ended_lines (came ++ more) ≡ done ++ ended_lines (held ++ more)))

-- these bytes came and were cut into these lines, and the first `asked` of the lines were answered so
pub record IsUnderway (before left into written : Option (List ℕ)) (reader : ReaderState) (Stands : List Entry → Type 0)
    (came : List ℕ) (done asked : List (List ℕ)) (replies : List Reply) (now : List Entry) : Type 0 where
  pub consumed : Consumes before left came
  pub given : reader.given ≡ length came
  pub small : length done + length reader.held ≤ reader.given
  pub cut : Cut reader.ended reader.held left came done
  pub ran : AreAnswers script_limit [] (map asked_of asked) replies now
  pub stands : Stands now
  pub appended : Appends into written (reply_lines replies)

-- all lines that were cut off were answered, so many
abbrev pub IsCaughtUp : Option (List ℕ) → Option (List ℕ) → Option (List ℕ) → Option (List ℕ) → ReaderState → ℕ → (List Entry → Type 0) → Type 0
IsCaughtUp before left into written reader count Stands =
    (came : List ℕ) × (done : List (List ℕ)) × (replies : List Reply) × (now : List Entry)
    × IsUnderway before left into written reader Stands came done done replies now × (count ≡ length done)

abbrev pub counted : Bool → ℕ → ℕ
counted more count = if more then count + 1 else count

-- a request was answered by a step, and the sink took the reply line
abbrev pub IsReplied : ℕ → List Entry → ℕ × Ask → (List Entry → Type 0) → Option (List ℕ) → Option (List ℕ) → Type 0
IsReplied limit h asked Stands before after =
    (reply : Reply) × AnswersOneStep limit h asked.0 asked.1 reply Stands × Appends before after (reply_line reply)

-- a request was answered by a step, and the sink took a front of the reply line and not all of it
abbrev pub IsPartlyReplied : ℕ → List Entry → ℕ × Ask → (List Entry → Type 0) → Option (List ℕ) → Option (List ℕ) → Type 0
IsPartlyReplied limit h asked Stands before after =
    (reply : Reply) × AnswersOneStep limit h asked.0 asked.1 reply Stands
    × (taken : ℕ) × (taken < length (reply_line reply)) × Appends before after (take taken (reply_line reply))
