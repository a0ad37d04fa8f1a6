-- The history behind a run of requests.
use Rattle.std.proofs.Common.{◌≡◌, ℕ, ◌+◌, ◌≤◌, ◌<◌, nat_le, false, List, [], ◌∷◌, ◌++◌, map, length, refl, sym, ap, ◌∙◌, subst, append_assoc, append-nil, arith}
use Rattle.std.proofs.lemmas.Bool.Decides.{nat_tests}
use Rattle.std.proofs.lemmas.List.{length-map}
use Rattle.frame_types.specs.Asks.{Ask}
use Rattle.frame_types.specs.declared.reply.Reply.{Reply}
use Rattle.hub_spec.specs.Histories.{Entry, IsLegal, past_of, history_after, entry_of}
use Rattle.hub_spec.specs.Runs.{AreAnswers}
use Rattle.session_core.specs.Script.{asked_of, reply_lines, script_limit}
use Rattle.session_core.specs.Histories.{requests_of, replies_of, AnswersTellHistories}

-- a history that isn't full takes the step
followed_by : (limit : ℕ) (h : List Entry) (e : Entry) → length h < limit → history_after limit h e ≡ e ∷ h
followed_by limit h e small = let more : nat_le limit (length h) ≡ false = grind (arith, nat_tests) in rw more refl

-- what a run made of a history: its requests and its replies are added, and it stays legal
pub record Grew (limit : ℕ) (h : List Entry) (asked : List (ℕ × Ask)) (replies : List Reply) (after : List Entry) : Type 0 where
  pub legal : IsLegal limit after
  pub requests : requests_of after ≡ requests_of h ++ asked
  pub answers : replies_of (past_of limit after) ≡ replies_of (past_of limit h) ++ replies

pub grew : (limit : ℕ) (asked : List (ℕ × Ask)) (replies : List Reply) (h after : List Entry) → AreAnswers limit h asked replies after → length h + length asked ≤ limit → IsLegal limit h
    → Grew limit h asked replies after
grew limit [] [] h after ran small legal =
    let P : List Entry → Type 0 = λ a. Grew limit h [] [] a in
    subst P (sym ran) (record { legal = legal; requests = sym (append-nil (requests_of h)); answers = sym (append-nil (replies_of (past_of limit h))) })
grew limit [] (r ∷ replies) h after ran small legal = absurd ran
grew limit (q ∷ asked) [] h after ran small legal = absurd ran
grew limit (q ∷ asked) (r ∷ replies) h after ran small legal =
    let e : Entry = entry_of q.0 q.1 r in
    let P : List Entry → Type 0 = λ now. AreAnswers limit now asked replies after in
    let rest = subst P (followed_by limit h e (omega arith)) ran.1 in
    let more = grew limit asked replies (e ∷ h) after rest (omega arith) (legal, omega arith, ran.0.allowed) in record {
      legal = more.legal;
      requests = more.requests ∙ append_assoc (requests_of h) (q ∷ []) asked;
      answers = more.answers ∙ ap (λ s. (replies_of (past_of limit h) ++ s ∷ []) ++ replies) (sym ran.0.right) ∙ append_assoc (replies_of (past_of limit h)) (r ∷ []) replies;
    }

pub tell_histories : AnswersTellHistories
tell_histories lines out small answers =
    let size : length (map asked_of lines) ≡ length lines = length-map lines asked_of in
    let all = grew script_limit (map asked_of lines) answers.replies [] answers.after answers.ran (omega arith) tt in (
      record {
        history = answers.after;
        legal = all.legal;
        requests = all.requests;
        written = answers.written ∙ ap reply_lines (sym all.answers);
        folds = answers.folds;
      },
      refl,
    )
