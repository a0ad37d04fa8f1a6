-- What a call of a caller does to the history that it stands for.
use Rattle.std.specs.Prelude.{◌≡◌, ℕ, List, [], ◌∷◌, ◌++◌, Bool, true, not, ◌&&◌}
use Rattle.frame_types.specs.Asks.{Ask}
use Rattle.frame_types.specs.ReplyData.{ReplyData}
use Rattle.hub_spec.specs.Histories.{Entry}
use Rattle.hub_spec.specs.Runs.{AnswersOneStep}

-- no entry is of a session that is spoken for
abbrev pub is_foreign_to : (ℕ → Bool) → List Entry → Bool
is_foreign_to speaks [] = true
is_foreign_to speaks (e ∷ h) = not (speaks e.session) && is_foreign_to speaks h

abbrev pub SpeaksForAll : (ℕ → Bool) → Type 0
SpeaksForAll speaks = (session : ℕ) → speaks session ≡ true

-- entries came of sessions that are not spoken for, and then the step that was asked
pub record Calls (limit : ℕ) (speaks : ℕ → Bool) (h : List Entry) (session : ℕ) (request : Ask) (reply : ReplyData) (Stands : List Entry → Type 0) : Type 0 where
  pub others : List Entry
  pub foreign : is_foreign_to speaks others ≡ true
  pub step : AnswersOneStep limit (others ++ h) session request reply Stands
