-- Where the reader stands in the midst of a line.
use Rattle.std.proofs.Common.{◌≡◌, ℕ, ◌+◌, ◌-◌, ◌^◌, ◌≤◌, Bool, true, false, List, [], ◌∷◌, ◌++◌, length, take, Option, sym, ap, ◌∙◌, subst, arith, append_assoc, append-nil, length-append}
use Rattle.std.specs.Io.KnownBytes.{Consumes}
use Rattle.std.proofs.KnownBytes.{Consumes-trans}
use Rattle.std.proofs.Math.Seq.{take-append-add}
use Rattle.io_ends.specs.Lines.{NoEnd, has_end, no_end-append}
use Rattle.io_ends.specs.Partial.{Stands}
use Rattle.io_ends.specs.Intake.{TakesPart}
use Rattle.io_ends.specs.Reading.{Came, Gives, LeavesNone}
use Rattle.io_ends.specs.declared.line.Line.{Line}
use Rattle.io_ends.specs.declared.line.LineFault.{LineFault}
use Rattle.io_ends.specs.declared.line.LineFault.TheVariants.{Read, TooMany, Memory}
use Rattle.io_ends.specs.declared.partial.Partial.{Partial}

-- the text so far, for which the kept front stands, and what is held are what was held at first and what came since
pub record Midway (longest : ℕ) (left0 left : Option (List ℕ)) (held0 held : List ℕ) (given0 given : ℕ) (front : Partial) (text came : List ℕ) : Type 0 where
  pub no_end : NoEnd text
  pub stands : Stands longest text front
  pub consumed : Consumes left0 left came
  pub split : held0 ++ came ≡ text ++ held
  pub count : given ≡ given0 + length came

abbrev pub IsMidway : ℕ → Option (List ℕ) → Option (List ℕ) → List ℕ → List ℕ → ℕ → ℕ → Partial → Type 0
IsMidway longest left0 left held0 held given0 given front =
    (text : List ℕ) × (came : List ℕ) × Midway longest left0 left held0 held given0 given front text came

-- a reader that holds the end of a line isn't left without it
pub never : {A : Type 0} (held0 held part : List ℕ) → has_end held0 ≡ true → held ≡ held0 → held ≡ part → NoEnd part → A
never held0 held part h same is none =
    let t : has_end part ≡ true = ap has_end (sym is ∙ same) ∙ h in
    let f : true ≡ false = sym t ∙ none in
    cc

-- by cases on the fault
leaves : (fault : LineFault) (held : List ℕ) (given : ℕ) (came : List ℕ) → NoEnd (held ++ take (2 ^ 30 - given) came) → LeavesNone fault held given came
leaves Read held given came h = h
leaves TooMany held given came h = h
leaves Memory held given came h = tt

module _ {longest : ℕ} {left0 left : Option (List ℕ)} {held0 held : List ℕ} {given0 given : ℕ} {front : Partial} {text came : List ℕ} (m : Midway longest left0 left held0 held given0 given front text came) where
  -- all that was held is taken, and the line goes on
  pub grown : {after : List ℕ} {next : Partial} (p : TakesPart longest held after front next false) → Midway longest left0 left held0 [] given0 given next (text ++ p.part) came
  grown p = record {
    no_end = no_end-append text p.part m.no_end p.no_end;
    stands = p.grows text m.stands;
    consumed = m.consumed;
    split = m.split ∙ ap (λ l. text ++ l) p.cut.0 ∙ sym (append-nil (text ++ p.part));
    count = m.count;
  }

  -- the line ended in what was held
  pub whole : {after : List ℕ} {next : Partial} (p : TakesPart longest held after front next true) (line : Line) (now : ℕ) (ended : Bool)
      → ((longest : ℕ) (text rest : List ℕ) → Stands longest text next → NoEnd text → Gives longest (text ++ 10 ∷ rest) line rest false)
      → now ≡ given → ended ≡ false → Came left0 left given0 now (λ came. Gives longest (held0 ++ came) line after ended)
  whole {after} {next} p line now ended gives e open_yet =
      let split : held0 ++ came ≡ (text ++ p.part) ++ 10 ∷ after = m.split ∙ ap (λ l. text ++ l) p.cut ∙ sym (append_assoc text p.part (10 ∷ after)) in
      let first = gives longest (text ++ p.part) after (p.grows text m.stands) (no_end-append text p.part m.no_end p.no_end) in
      (came, m.consumed, e ∙ m.count, subst (λ b. Gives longest (held0 ++ came) line after b) (sym open_yet) (subst (λ bytes. Gives longest bytes line after false) (sym split) first))

  -- the line ended with the input
  pub last : (line : Line) (ended : Bool)
      → ((longest : ℕ) (text : List ℕ) → Stands longest text front → NoEnd text → Gives longest text line [] true)
      → held ≡ [] → ended ≡ true → Came left0 left given0 given (λ came. Gives longest (held0 ++ came) line held ended)
  last line ended gives none e =
      let split : held0 ++ came ≡ text = m.split ∙ ap (λ l. text ++ l) none ∙ append-nil text in
      let at_end = subst (λ bytes. Gives longest bytes line [] true) (sym split) (gives longest text m.stands m.no_end) in
      (came, m.consumed, m.count, subst (λ b. Gives longest (held0 ++ came) line held b) (sym e) (subst (λ rest. Gives longest (held0 ++ came) line rest true) (sym none) at_end))

  -- memory was wanted before anything else came
  pub stays : (fault : LineFault) (now : ℕ) → fault ≡ Memory → now ≡ given → Came left0 left given0 now (λ came. LeavesNone fault held0 given0 came)
  stays fault now is e = (came, m.consumed, e ∙ m.count, subst (λ f. LeavesNone f held0 given0 came) (sym is) tt)

module _ {longest : ℕ} {left0 left : Option (List ℕ)} {held0 : List ℕ} {given0 given : ℕ} {front : Partial} {text came : List ℕ} (m : Midway longest left0 left held0 [] given0 given front text came) where
  -- more came
  pub comes : (left' : Option (List ℕ)) (held' : List ℕ) (given' : ℕ) (more : List ℕ) → Consumes left left' more → given' ≡ given + length more → held' ≡ more
      → Midway longest left0 left' held0 held' given0 given' front text (came ++ more)
  comes left' held' given' more consumed count is = record {
    no_end = m.no_end;
    stands = m.stands;
    consumed = Consumes-trans left0 left left' came more m.consumed consumed;
    split = sym (append_assoc held0 came more) ∙ ap (λ l. l ++ more) (m.split ∙ append-nil text) ∙ ap (λ l. text ++ l) (sym is);
    count = count ∙ omega (arith, m.count, length-append came more);
  }

  -- the source failed, or gave more than the limit
  pub fails : (fault : LineFault) (left' : Option (List ℕ)) (given' : ℕ) (more : List ℕ) → Consumes left left' more → given' ≡ given + length more
      → given ≤ 2 ^ 30 → take (2 ^ 30 - given) more ≡ [] → Came left0 left' given0 given' (λ came. LeavesNone fault held0 given0 came)
  fails fault left' given' more consumed count within none =
      let room : 2 ^ 30 - given0 ≡ length came + (2 ^ 30 - given) = omega (arith, m.count) in
      let seen : take (2 ^ 30 - given0) (came ++ more) ≡ came =
      ap (λ n. take n (came ++ more)) room ∙ take-append-add came more (2 ^ 30 - given) ∙ ap (λ l. came ++ l) none ∙ append-nil came in
      let split : held0 ++ take (2 ^ 30 - given0) (came ++ more) ≡ text = ap (λ l. held0 ++ l) seen ∙ m.split ∙ append-nil text in
      (came ++ more, Consumes-trans left0 left left' came more m.consumed consumed, count ∙ omega (arith, m.count, length-append came more), leaves fault held0 given0 (came ++ more) (subst NoEnd (sym split) m.no_end))
