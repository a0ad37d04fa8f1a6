-- Which bytes answer which lines.
use Rattle.std.specs.Prelude.{◌≡◌, ℕ, ◌-◌, ◌^◌, ◌<◌, List, [], ◌∷◌, ◌++◌, map, take, length, true, Option, Some, None, ◌⊎◌}
use Rattle.std.specs.List.{flat_map}
use Rattle.io_ends.specs.declared.line.Line.{Line}
use Rattle.io_ends.specs.declared.line.Line.TheVariants.{Words, Long, End}
use Rattle.frame_types.specs.Asks.{Ask}
use Rattle.frame_types.specs.declared.request.FrameCause.TheVariants as frame
use Rattle.frame_types.specs.declared.reply.Reply.{Reply}
use Rattle.frame_json.specs.Requests.{request_of, unread_by}
use Rattle.frame_json.specs.Replies.{text}
use Rattle.hub_spec.specs.Histories.{Entry, history_after, entry_of}
use Rattle.hub_spec.specs.Laws.{Folds}
use Rattle.hub_spec.specs.Runs.{IsAnswer, AreAnswers}

-- the most steps of a script's history, which a script is too short to reach
abbrev pub script_limit : ℕ
script_limit = 2 ^ 53 - 1

-- the request of a line, and the session that asks it
abbrev pub asked_of : List ℕ → ℕ × Ask
asked_of line = request_of line true

-- of a line that was read; a long line was not kept, and is no request in any case
abbrev pub asked_in : Line → Option (ℕ × Ask)
asked_in (Words line) = Some (asked_of line)
asked_in Long = Some (unread_by frame.Long)
asked_in End = None

-- a reply line: the reply's text and byte 10
abbrev pub reply_line : Reply → List ℕ
reply_line reply = text reply ++ 10 ∷ []

abbrev pub reply_lines : List Reply → List ℕ
reply_lines replies = flat_map reply_line replies

-- the bytes are one reply line for each line, each the answer computed from scratch after those
-- before it, under a choice that it names and that is allowed there; and in the history that they
-- make, a client that folds each delta holds what its view showed
pub record AnswersLines (lines : List (List ℕ)) (out : List ℕ) : Type 0 where
  pub replies : List Reply
  -- the history that the replies tell
  pub after : List Entry
  pub written : out ≡ reply_lines replies
  pub ran : AreAnswers script_limit [] (map asked_of lines) replies after
  pub folds : Folds script_limit after

-- the request was asked after the history `h`, these bytes are a front of its reply line and not all
-- of it, and `now` is the history then
pub record IsCutShort (limit : ℕ) (h : List Entry) (asked : ℕ × Ask) (part : List ℕ) (now : List Entry) : Type 0 where
  pub reply : Reply
  pub answer : IsAnswer limit h asked.0 asked.1 reply
  pub now_is : now ≡ history_after limit h (entry_of asked.0 asked.1 reply)
  pub taken : ℕ
  pub short : taken < length (reply_line reply)
  pub front : part ≡ take taken (reply_line reply)

-- of the lines that were not answered: none was asked, or the first was, and its reply line is cut short
abbrev pub NextIs : List Entry → List (List ℕ) → List ℕ → List Entry → Type 0
NextIs h [] part now = (part ≡ []) × (now ≡ h)
NextIs h (line ∷ others) part now = ((part ≡ []) × (now ≡ h)) ⊎ IsCutShort script_limit h (asked_of line) part now

-- the bytes are the reply lines to the first of the lines, and then a front of the next one
pub record AnswersFirstLines (lines : List (List ℕ)) (out : List ℕ) : Type 0 where
  pub done : List (List ℕ)
  pub others : List (List ℕ)
  pub replies : List Reply
  -- the history that the replies tell
  pub after : List Entry
  pub part : List ℕ
  -- the history with the step whose reply line is cut short, where there is one
  pub now : List Entry
  pub lines_are : lines ≡ done ++ others
  pub written : out ≡ reply_lines replies ++ part
  pub ran : AreAnswers script_limit [] (map asked_of done) replies after
  pub folds : Folds script_limit after
  pub next : NextIs after others part now
