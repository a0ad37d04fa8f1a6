-- What the status says, from how the script ended.
use Rattle.std.proofs.Common.{◌≡◌, ℕ, ◌+◌, ◌^◌, ◌≤◌, Bool, true, false, cond, List, [], ◌∷◌, length, Option, inl, inr, refl, arith}
use Rattle.std.proofs.KnownBytes.{Consumes-nil, Appends-nil}
use Rattle.io_ends.specs.Lines.{lines}
use Rattle.std.specs.Bool.{◌==◌}
use Rattle.std.specs.List.{onto_first}
use Rattle.hub_spec.specs.Histories.{Entry}
use Rattle.session_core.proofs.HistoryLemmas.{tell_histories}
use Rattle.session_core.proofs.UnderwayLemmas.{answers_first, so_far}
use Rattle.session_core.specs.Faults.{is_read_fault, is_write_fault}
use Rattle.session_core.specs.Outcome.{AnswersFirst, LinesSoFar, Moved, Outcome}
use Rattle.session_core.specs.Script.{AnswersFirstLines}
use Rattle.session_core.specs.declared.script.ScriptEnd.{ScriptEnd}
use Rattle.session_core.specs.declared.script.ScriptEnd.TheVariants.{Done, Memory, TooLong, ReadFault, WriteFault}
use Rattle.pv_program.specs.Statuses.{StatusSays, code_of}

-- a line takes a byte at least
more_lines : (ends : Bool) (b : ℕ) (ls : List (List ℕ)) (n : ℕ) → length ls ≤ n → length (cond ends ([] ∷ ls) (onto_first b ls)) ≤ n + 1
more_lines true b ls n h = omega arith
more_lines false b [] n h = omega arith
more_lines false b (l ∷ ls) n h = omega arith

length-lines : (bytes : List ℕ) → length (lines bytes) ≤ length bytes
length-lines [] = omega arith
length-lines (b ∷ bytes) = let rest = more_lines (b == 10) b (lines bytes) (length bytes) (length-lines bytes) in omega arith

-- the first of the lines so far are answered, whatever the caller stands for
first_lines : (left : Option (List ℕ)) (Stands : List Entry → Type 0) (given out : List ℕ) → LinesSoFar left given (AnswersFirst Stands out)
    → LinesSoFar left given (λ ls. AnswersFirstLines ls out)
first_lines left Stands given out h = so_far left given (AnswersFirst Stands out) (λ ls. AnswersFirstLines ls out) (λ ls first. first.0) h

pub status_says : (end : ScriptEnd) (left : Option (List ℕ)) (Stands : List Entry → Type 0) (given out : List ℕ) → Outcome end left Stands given out
    → StatusSays (code_of end) left given out
status_says (Done count) left Stands given out h = record {
  answers = λ e. (h.0, h.1.0);
  tells = λ e. (tell_histories (lines given) out (let few = length-lines given in let within : length given ≤ 2 ^ 30 = h.3 in omega arith) h.1.0).0;
  partly = λ e. elim e [ inl i ↦ absurd (omega arith) | inr i ↦ absurd (omega arith) ];
  other_words = λ e. absurd (omega arith);
  too_many = (λ e. omega arith, λ more. let within = h.3 in omega arith);
  up_to_limit = λ e. absurd (omega arith);
  read = λ e. absurd (omega arith);
}
status_says Memory left Stands given out h = record {
  answers = λ e. absurd (omega arith);
  tells = λ e. absurd (omega arith);
  partly = λ e. first_lines left Stands given out h.0;
  other_words = λ e. absurd (omega arith);
  too_many = (λ e. omega arith, λ more. let within = h.1 in omega arith);
  up_to_limit = λ e. absurd (omega arith);
  read = λ e. absurd (omega arith);
}
status_says TooLong left Stands given out h = record {
  answers = λ e. absurd (omega arith);
  tells = λ e. absurd (omega arith);
  partly = λ e. elim e [ inl i ↦ absurd (omega arith) | inr i ↦ absurd (omega arith) ];
  other_words = λ e. absurd (omega arith);
  too_many = (λ e. let size = h.1 in omega arith, λ more. refl);
  up_to_limit = λ e. h.0.0;
  read = λ e. absurd (omega arith);
}
status_says ReadFault left Stands given out h = record {
  answers = λ e. absurd (omega arith);
  tells = λ e. absurd (omega arith);
  partly = λ e. elim e [ inl i ↦ absurd (omega arith) | inr i ↦ absurd (omega arith) ];
  other_words = λ e. absurd (omega arith);
  too_many = (λ e. omega arith, λ more. let within = h.1 in omega arith);
  up_to_limit = λ e. absurd (omega arith);
  read = λ e. h.0.0;
}
status_says WriteFault left Stands given out h = record {
  answers = λ e. absurd (omega arith);
  tells = λ e. absurd (omega arith);
  partly = λ e. first_lines left Stands given out h.0;
  other_words = λ e. absurd (omega arith);
  too_many = (λ e. omega arith, λ more. let within = h.1 in omega arith);
  up_to_limit = λ e. absurd (omega arith);
  read = λ e. absurd (omega arith);
}

-- nothing was read and nothing written
pub nothing_moved : (left written : Option (List ℕ)) (P : List ℕ → List ℕ → Type 0) → P [] [] → Moved left left written written P
nothing_moved left written P h = ([], [], Consumes-nil left, Appends-nil written, h)

pub moved : (left0 left1 written0 written1 : Option (List ℕ)) (P Q : List ℕ → List ℕ → Type 0) → ((given out : List ℕ) → P given out → Q given out)
    → Moved left0 left1 written0 written1 P → Moved left0 left1 written0 written1 Q
moved left0 left1 written0 written1 P Q f m = (m.0, m.1, m.2, m.3, f m.0 m.1 m.4)

pub wrong_words : (left : Option (List ℕ)) → StatusSays 2 left [] []
wrong_words left = record {
  answers = λ e. absurd (omega arith);
  tells = λ e. absurd (omega arith);
  partly = λ e. elim e [ inl i ↦ absurd (omega arith) | inr i ↦ absurd (omega arith) ];
  other_words = λ e. (refl, refl);
  too_many = (λ e. omega arith, λ more. omega arith);
  up_to_limit = λ e. absurd (omega arith);
  read = λ e. absurd (omega arith);
}

-- nothing was read, and no line is there to be answered
pub without_memory : (left : Option (List ℕ)) → StatusSays 1 left [] []
without_memory left =
    let Any : List Entry → Type 0 = λ h. Unit {0} in
    status_says Memory left Any [] [] (inl (answers_first Any [] [] [] refl tt [] ([], refl)), omega arith)

pub never_two : (end : ScriptEnd) → code_of end ≡ 2 → ⊥
never_two (Done count) e = omega arith
never_two Memory e = omega arith
never_two TooLong e = omega arith
never_two ReadFault e = omega arith
never_two WriteFault e = omega arith

pub shows_read : (end : ScriptEnd) → is_read_fault end ≡ (code_of end == 4)
shows_read (Done count) = refl
shows_read Memory = refl
shows_read TooLong = refl
shows_read ReadFault = refl
shows_read WriteFault = refl

pub shows_write : (end : ScriptEnd) → is_write_fault end ≡ (code_of end == 5)
shows_write (Done count) = refl
shows_write Memory = refl
shows_write TooLong = refl
shows_write ReadFault = refl
shows_write WriteFault = refl
