-- Runs: a list of requests, and the replies to them.
use Rattle.std.specs.Prelude.{◌≡◌, ℕ, true, List, [], ◌∷◌}
use Rattle.frame_types.specs.Asks.{Ask}
use Rattle.frame_types.specs.ReplyData.{ReplyData}
use Rattle.hub_spec.specs.Histories.{Entry, answer, past_of, choice_of, is_allowed, entry_of, history_after}
use Rattle.hub_spec.specs.Laws.{Folds}

-- the reply is the answer computed from scratch after the history, under a choice that it names
-- and that is allowed there
pub record IsAnswer (limit : ℕ) (h : List Entry) (session : ℕ) (request : Ask) (reply : ReplyData) : Type 0 where
  pub right : reply ≡ answer limit h (entry_of session request reply)
  pub allowed : is_allowed limit (past_of limit h) session request (choice_of reply.body) ≡ true

-- one reply for each request, each the answer after those before it; `after` is the history then
abbrev pub AreAnswers : ℕ → List Entry → List (ℕ × Ask) → List ReplyData → List Entry → Type 0
AreAnswers limit h [] [] after = after ≡ h
AreAnswers limit h (q ∷ asked) (r ∷ replies) after = IsAnswer limit h q.0 q.1 r × AreAnswers limit (history_after limit h (entry_of q.0 q.1 r)) asked replies after
AreAnswers limit h [] (r ∷ replies) after = ⊥
AreAnswers limit h (q ∷ asked) [] after = ⊥

-- the reply is the answer after the history, what follows has the property, and in it deltas fold
pub record AnswersOneStep (limit : ℕ) (h : List Entry) (session : ℕ) (request : Ask) (reply : ReplyData) (Stands : List Entry → Type 0) : Type 0 where
  pub answer : IsAnswer limit h session request reply
  pub stands : Stands (history_after limit h (entry_of session request reply))
  pub folds : Folds limit (history_after limit h (entry_of session request reply))
