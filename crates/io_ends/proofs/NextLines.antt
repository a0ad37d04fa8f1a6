-- The first line of what was held and came is the next of the lines of all that is ahead.
use Rattle.std.proofs.Common.{◌≡◌, ℕ, ◌+◌, ◌<◌, Bool, true, false, List, [], ◌∷◌, ◌++◌, length, Option, None, Some, Result, Ok, Err, IfOk, OnOk, refl, sym, ap, ◌∙◌, arith, append_assoc, append-nil, length-append}
use Rattle.std.specs.Io.KnownBytes.{Consumes, IsAtEnd}
use Rattle.io_ends.specs.Lines.{lines, lines_at, lines_one}
use Rattle.io_ends.specs.Reading.{ReaderState, Came, Gives, IsFirst, NextOf, Takes}
use Rattle.io_ends.specs.Told.{Told}
use Rattle.io_ends.specs.declared.line.Line.{Line}
use Rattle.io_ends.specs.declared.line.Line.TheVariants.{Words, Long, End}
use Rattle.io_ends.specs.declared.line.LineFault.{LineFault}

first_line : (bytes text rest after : List ℕ) (ended : Bool) → IsFirst bytes text rest ended → (ended ≡ true → after ≡ []) → lines (bytes ++ after) ≡ text ∷ lines (rest ++ after)
first_line bytes text rest after true h at_end =
    rw (at_end refl, append-nil, append-nil, h.1.0, h.1.1) (lines_one text h.0 h.1.2)
first_line bytes text rest after false h at_end =
    ap lines (ap (λ l. l ++ after) h.1 ∙ append_assoc text (10 ∷ rest) after) ∙ lines_at text (rest ++ after) h.0

next_of : (longest : ℕ) (line : Line) (ended : Bool) (held0 held came before after : List ℕ) → before ≡ came ++ after
    → Gives longest (held0 ++ came) line held ended → (ended ≡ true → after ≡ []) → NextOf longest (held0 ++ before) line (held ++ after)
next_of longest (Words text) ended held0 held came before after e g at_end =
    (g.0, ap lines (ap (λ l. held0 ++ l) e ∙ sym (append_assoc held0 came after)) ∙ first_line (held0 ++ came) text held after ended g.1 at_end)
next_of longest Long ended held0 held came before after e g at_end =
    (g.0, g.1, ap lines (ap (λ l. held0 ++ l) e ∙ sym (append_assoc held0 came after)) ∙ first_line (held0 ++ came) g.0 held after ended g.2 at_end)
next_of longest End ended held0 held came before after e g at_end =
    (ap (λ l. held0 ++ l) e ∙ sym (append_assoc held0 came after) ∙ ap (λ l. l ++ after) g.0 ∙ at_end g.2, ap (λ l. l ++ after) g.1 ∙ at_end g.2)

told : (left left' : Option (List ℕ)) (longest : ℕ) (line : Line) (ended : Bool) (held0 held came : List ℕ) → Consumes left left' came
    → Gives longest (held0 ++ came) line held ended → (ended ≡ true → IsAtEnd left') → Told left left' (λ before after. NextOf longest (held0 ++ before) line (held ++ after))
told None left' longest line ended held0 held came c g at_end = tt
told (Some before) None longest line ended held0 held came c g at_end = absurd c
told (Some before) (Some after) longest line ended held0 held came c g at_end = next_of longest line ended held0 held came before after c g at_end

-- the first line of bytes takes at least one of them
shorter : (bytes text rest : List ℕ) (ended : Bool) → IsFirst bytes text rest ended → length rest < length bytes
shorter bytes text rest true h = omega (arith, ap length h.1.0, ap length h.1.1, h.1.2)
shorter bytes text rest false h = omega (arith, ap length h.1, length-append text (10 ∷ rest))

taken : (longest : ℕ) (line : Line) (old new : ReaderState) (came : List ℕ) → Gives longest (old.held ++ came) line new.held new.ended
    → new.given ≡ old.given + length came → Takes line old new
taken longest (Words text) old new came g count =
    omega (arith, count, length-append old.held came, shorter (old.held ++ came) text new.held new.ended g.1)
taken longest Long old new came g count =
    omega (arith, count, length-append old.held came, shorter (old.held ++ came) g.0 new.held new.ended g.2)
taken longest End old new came g count = tt

module _ (left left' : Option (List ℕ)) (longest : ℕ) (old new : ReaderState) where
  -- the answer of a call that came back
  abbrev Answer : Line → Type 0
  Answer line = Came left left' old.given new.given (λ came. Gives longest (old.held ++ came) line new.held new.ended)

  pub next_told : (r : Result Line LineFault) → IfOk r Answer → OnOk r (new.ended ≡ true → IsAtEnd left')
      → IfOk r (λ line. old.ended ≡ false → Told left left' (λ before after. NextOf longest (old.held ++ before) line (new.held ++ after)))
  next_told (Ok line) a at_end = λ open_yet. told left left' longest line new.ended old.held new.held a.0 a.1 a.3 at_end
  next_told (Err fault) a at_end = tt

  pub next_taken : (r : Result Line LineFault) → IfOk r Answer → IfOk r (λ line. Takes line old new)
  next_taken (Ok line) a = taken longest line old new a.0 a.3 a.2
  next_taken (Err fault) a = tt
