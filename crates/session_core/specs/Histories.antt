-- The history that the lines of a script make.
use Rattle.std.specs.Prelude.{◌≡◌, ℕ, ◌≤◌, List, [], ◌∷◌, ◌++◌, map, length}
use Rattle.frame_types.specs.Asks.{Ask}
use Rattle.frame_types.specs.declared.reply.Reply.{Reply}
use Rattle.hub_spec.specs.Past.{PastStep}
use Rattle.hub_spec.specs.Histories.{Entry, IsLegal, past_of}
use Rattle.hub_spec.specs.Laws.{Folds}
use Rattle.session_core.specs.Script.{AnswersLines, asked_of, reply_lines, script_limit}

-- the requests of a history, the first one first
abbrev pub requests_of : List Entry → List (ℕ × Ask)
requests_of [] = []
requests_of (e ∷ h) = requests_of h ++ (e.session, e.request) ∷ []

-- the replies of a history, the first one first
abbrev pub replies_of : List PastStep → List Reply
replies_of [] = []
replies_of (d ∷ past) = replies_of past ++ d.reply ∷ []

-- the bytes are the reply lines of a legal history whose requests are those of the lines, and in which a
-- client that folds each delta holds what its view showed
pub record TellsHistory (lines : List (List ℕ)) (out : List ℕ) : Type 0 where
  pub history : List Entry
  pub legal : IsLegal script_limit history
  pub requests : requests_of history ≡ map asked_of lines
  pub written : out ≡ reply_lines (replies_of (past_of script_limit history))
  pub folds : Folds script_limit history

-- where bytes answer lines, they are the reply lines of the lines' history, which is the one that the
-- replies tell
abbrev pub AnswersTellHistories : Type 0
AnswersTellHistories =
    (lines : List (List ℕ)) (out : List ℕ) → length lines ≤ script_limit
    → (answers : AnswersLines lines out) → (tells : TellsHistory lines out) × (tells.history ≡ answers.after)
