-- What was read and written, by the status that the program ends with.
use Rattle.std.specs.Prelude.{◌≡◌, ℕ, ◌^◌, ◌<◌, List, [], length, take, Option, ◌⊎◌, ◌↔◌}
use Rattle.std.specs.Io.KnownBytes.{IsAtEnd}
use Rattle.io_ends.specs.Lines.{lines, ended_lines}
use Rattle.session_core.specs.Histories.{TellsHistory}
use Rattle.session_core.specs.Outcome.{LinesSoFar}
use Rattle.session_core.specs.Script.{AnswersLines, AnswersFirstLines}
use Rattle.session_core.specs.declared.script.ScriptEnd.{ScriptEnd}
use Rattle.session_core.specs.declared.script.ScriptEnd.TheVariants.{Done, Memory, TooLong, ReadFault, WriteFault}

-- `given` is what the source gave in the call, `out` what the sink took, and `left` what the source
-- still has
pub record StatusSays (code : ℕ) (left : Option (List ℕ)) (given out : List ℕ) : Type 0 where
  -- the input was read to its end, and each line is answered by one reply line
  pub answers : code ≡ 0 → IsAtEnd left × AnswersLines (lines given) out
  -- so the output is the reply lines of one legal history, whose requests are those of the lines
  pub tells : code ≡ 0 → TellsHistory (lines given) out
  -- without memory, and after a fault of the sink: the first of the lines so far are answered, and a
  -- front of the next reply line may be there
  pub partly : (code ≡ 1) ⊎ (code ≡ 5) → LinesSoFar left given (λ ls. AnswersFirstLines ls out)
  -- other words: nothing is read or written
  pub other_words : code ≡ 2 → (given ≡ []) × (out ≡ [])
  -- more than 2^30 bytes: the lines that ended within them are answered
  pub too_many : (code ≡ 3) ↔ (2 ^ 30 < length given)
  pub up_to_limit : code ≡ 3 → AnswersLines (ended_lines (take (2 ^ 30) given)) out
  -- after a fault of the source: the lines that had ended are answered
  pub read : code ≡ 4 → AnswersLines (ended_lines given) out

-- how a script's end shows in the status
abbrev pub code_of : ScriptEnd → ℕ
code_of (Done lines) = 0
code_of Memory = 1
code_of TooLong = 3
code_of ReadFault = 4
code_of WriteFault = 5
