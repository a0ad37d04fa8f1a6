-- Histories with their answers.
--
-- Lists of them stand newest first, so that the rest of a list is what was before.
use Rattle.std.specs.Prelude.{ℕ, ◌+◌, ◌==◌, Bool, List, [], ◌∷◌, if◌then◌else◌}
use Rattle.frame_types.specs.Asks.{Ask}
use Rattle.frame_types.specs.ReplyData.{ReplyData}

-- a step of the past: who asked what, and the reply
pub record PastStep : Type 0 where
  pub session : ℕ
  pub request : Ask
  pub reply : ReplyData

-- how many steps pass the test
abbrev pub times : (PastStep → Bool) → List PastStep → ℕ
times test [] = 0
times test (d ∷ past) = if test d then times test past + 1 else times test past

-- how many steps the session took
abbrev pub entries_of : List PastStep → ℕ → ℕ
entries_of past session = times (λ d. d.session == session) past
