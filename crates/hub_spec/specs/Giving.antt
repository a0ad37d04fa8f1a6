-- What one step gives where the history isn't full: its answer, and what is held after it.
use Rattle.std.specs.Prelude.{◌≡◌, ⊤, ℕ, ◌<◌, ◌^◌, true, List, ◌∷◌, length, Result, Ok, Err}
use Rattle.frame_types.specs.Asks.{Ask}
use Rattle.frame_types.specs.declared.reply.Body.{Body}
use Rattle.frame_types.specs.declared.reply.Body.TheVariants as body
use Rattle.frame_types.specs.declared.reply.Refusal.{Refusal}
use Rattle.hub_spec.specs.Past.{PastStep}
use Rattle.hub_spec.specs.Answers.{first_of, refusals, grant}
use Rattle.hub_spec.specs.Histories.{choice_of, answer_under, may_choose}

-- an answer, or why there is none
abbrev pub body_in : Result Body Refusal → Body
body_in (Ok answer) = answer
body_in (Err why) = body.Refused why

-- the answer where memory is plenty
abbrev pub plain_in : List PastStep → ℕ → Ask → Body
plain_in past session request = first_of (refusals past session request) (grant past session request)

-- the answer is the plain one under a choice that it names and that is allowed
pub record IsGiven (past : List PastStep) (session : ℕ) (request : Ask) (answer : Body) : Type 0 where
  pub right : answer ≡ answer_under (choice_of answer) (plain_in past session request)
  pub allowed : may_choose past request (choice_of answer) (plain_in past session request) ≡ true

abbrev pub with_step : ℕ → Ask → ℕ → ℕ → Body → List PastStep → List PastStep
with_step session request n version answer past =
    record { session = session; request = request; reply = record { n = n; version = version; body = answer } } ∷ past

-- after this history the answer is given, and what follows is held
pub record Gives (past : List PastStep) (session : ℕ) (request : Ask) (answer : Body) (Holds : List PastStep → Type 0) : Type 0 where
  pub given : IsGiven past session request answer
  pub holds : (n version : ℕ) → Holds (with_step session request n version answer past)

-- so it is after each past that was held
abbrev pub AfterEach : (List PastStep → Type 0) → (List PastStep → Type 0) → Type 0
AfterEach Held IsSo = (past : List PastStep) → Held past → IsSo past

-- after each past that was held, none of which is longer than a hub can count, this answers the request
abbrev pub AnswersAfter : (List PastStep → Type 0) → ℕ → Ask → Body → (List PastStep → Type 0) → Type 0
AnswersAfter Held session request answer Holds =
    AfterEach Held (λ past. length past < 2 ^ 53 → Gives past session request answer Holds)

-- an answer that changes neither the table nor a port; a delta in it ends at that version
abbrev pub IsOfViews : ℕ → Body → Type 0
IsOfViews version (body.Opened edit shown view) = ⊤
IsOfViews version (body.Edited edit view) = ⊤
IsOfViews version (body.Delta delta view) = delta.to.version ≡ version
IsOfViews version (body.Resync bound edit shown view) = ⊤
IsOfViews version (body.Rows edit start shown size view) = ⊤
IsOfViews version (body.Closed view) = ⊤
IsOfViews version (body.Left closed) = ⊤
IsOfViews version (body.Refused why) = ⊤
IsOfViews version _ = ⊥
