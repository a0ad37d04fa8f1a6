-- Histories: steps with the one choice that memory leaves open, their answers, and which are legal.
use Rattle.std.specs.Prelude.{◌≡◌, ℕ, ◌+◌, ◌≤◌, ◌==◌, nat_lt, nat_le, List, [], ◌∷◌, length, Bool, true, false, not, ◌&&◌, ◌||◌, if◌then◌else◌}
use Rattle.std.specs.List.{list_all}
use Rattle.frame_types.specs.Asks.{Ask}
use Rattle.frame_types.specs.Asks as ask
use Rattle.frame_types.specs.Refusals.{memory}
use Rattle.frame_types.specs.ReplyData.{ReplyData}
use Rattle.frame_types.specs.declared.reply.Body.{Body}
use Rattle.frame_types.specs.declared.reply.Body.TheVariants as body
use Rattle.hub_spec.specs.Past.{PastStep, entries_of}
use Rattle.hub_spec.specs.Answers.{plain}
use Rattle.hub_spec.specs.HeldViews.{is_live}
use Rattle.hub_spec.specs.Ports.{version_after}

-- memory was plenty, was wanted for the answer, or was wanted for the update of these views
pub data Choice : Type 0 where
  plenty : Choice
  want : Choice
  losing : List (ℕ × ℕ) → Choice

-- ---- the answer under a choice

abbrev pub losing_in : List (ℕ × ℕ) → Body → Body
losing_in lost (body.Applied port seq) = body.AppliedLosing lost port seq
losing_in lost answer = answer

abbrev pub answer_under : Choice → Body → Body
answer_under plenty answer = answer
answer_under want answer = body.Refused memory
answer_under (losing lost) answer = losing_in lost answer

-- the choice that an answer names
abbrev pub choice_of : Body → Choice
choice_of (body.Refused why) = if why.code == 22 then want else plenty
choice_of (body.AppliedLosing lost port seq) = losing lost
choice_of _ = plenty

-- ---- which choices are allowed

-- this answer takes no memory: something is closed or left, the line is no request, the history is
-- full, or there is no table
abbrev pub takes_none : Ask → Body → Bool
takes_none (ask.unread why) answer = true
takes_none (ask.close view) answer = true
takes_none (ask.close_port port) answer = true
takes_none ask.leave answer = true
takes_none request (body.Refused why) = why.code == 11 || why.code == 21
takes_none request answer = false

-- by session and then by number, none twice
abbrev pub is_ascending : List (ℕ × ℕ) → Bool
is_ascending [] = true
is_ascending (v ∷ []) = true
is_ascending (v ∷ (w ∷ more)) = (nat_lt v.0 w.0 || (v.0 == w.0 && nat_lt v.1 w.1)) && is_ascending (w ∷ more)

abbrev pub may_lose : List PastStep → List (ℕ × ℕ) → Body → Bool
may_lose past lost (body.Applied port seq) = nat_lt 0 (length lost) && is_ascending lost && list_all (is_live past) lost
may_lose past lost answer = false

abbrev pub may_choose : List PastStep → Ask → Choice → Body → Bool
may_choose past request plenty answer = true
may_choose past request want answer = not (takes_none request answer)
may_choose past request (losing lost) answer = may_lose past lost answer

abbrev pub is_allowed : ℕ → List PastStep → ℕ → Ask → Choice → Bool
is_allowed limit past session request choice = may_choose past request choice (plain limit past session request)

-- ---- replies and histories

-- the answer with its number in the session and the version after the step
abbrev pub reply_with : List PastStep → ℕ → Body → ReplyData
reply_with past session answer = record { n = entries_of past session + 1; version = version_after past answer; body = answer }

abbrev pub answer_to : ℕ → List PastStep → ℕ → Ask → Choice → ReplyData
answer_to limit past session request choice = reply_with past session (answer_under choice (plain limit past session request))

-- a step of a history
pub record Entry : Type 0 where
  pub session : ℕ
  pub request : Ask
  pub choice : Choice

-- the past that a history leaves: its steps with their replies, newest first
abbrev pub past_of : ℕ → List Entry → List PastStep
past_of limit [] = []
past_of limit (e ∷ h) =
    let past = past_of limit h in
    record { session = e.session; request = e.request; reply = answer_to limit past e.session e.request e.choice } ∷ past

-- the answer to a step after a history
abbrev pub answer : ℕ → List Entry → Entry → ReplyData
answer limit h e = answer_to limit (past_of limit h) e.session e.request e.choice

-- at most `limit` steps, and each choice is allowed after the steps before it
abbrev pub IsLegal : ℕ → List Entry → Type 0
IsLegal limit [] = Unit {0}
IsLegal limit (e ∷ h) =
    IsLegal limit h × (length h + 1 ≤ limit) × (is_allowed limit (past_of limit h) e.session e.request e.choice ≡ true)

-- the entry of a step, from its reply
abbrev pub entry_of : ℕ → Ask → ReplyData → Entry
entry_of session request reply = record { session = session; request = request; choice = choice_of reply.body }

-- the history after an entry more: a full one stays
abbrev pub history_after : ℕ → List Entry → Entry → List Entry
history_after limit h e = if nat_le limit (length h) then h else e ∷ h
