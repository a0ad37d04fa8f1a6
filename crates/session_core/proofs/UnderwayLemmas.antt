-- Steps of a script that is underway.
use Rattle.std.proofs.Common.{◌≡◌, ℕ, ◌+◌, ◌-◌, ◌^◌, ◌<◌, ◌≤◌, ltb, Bool, true, false, List, [], ◌∷◌, ◌++◌, map, take, length, min, Option, Some, None, Result, Err, inl, inr, refl, sym, ap, ◌∙◌, subst, append_assoc, append-nil, length-append, arith}
use Rattle.std.proofs.KnownBytes.{Consumes-nil, Appends-nil, Consumes-trans, Appends-trans}
use Rattle.std.proofs.lemmas.Bool.Decides.{nat_tests}
use Rattle.std.proofs.Math.Seq.{take-append-add}
use Rattle.std.proofs.lemmas.List.{take_all}
use Rattle.std.specs.Io.KnownBytes.{Appends, Consumes, IsAtEnd}
use Rattle.io_ends.specs.Lines.{lines, ended_lines, NoEnd, lines_at, lines_one, ended_at, ended_none}
use Rattle.io_ends.specs.Reading.{ReaderState, IsFirst, Gives, LeavesNone, IsWithin, Takes}
use Rattle.io_ends.specs.declared.line.Line.{Line}
use Rattle.io_ends.specs.declared.line.Line.TheVariants as line
use Rattle.io_ends.specs.declared.line.LineFault.{LineFault}
use Rattle.io_ends.specs.declared.line.LineFault.TheVariants as fault
use Rattle.frame_types.specs.Asks.{Ask}
use Rattle.frame_types.specs.declared.reply.Reply.{Reply}
use Rattle.hub_spec.proofs.Folding.{deltas_fold}
use Rattle.hub_spec.specs.Histories.{Entry, history_after, entry_of}
use Rattle.hub_spec.specs.Runs.{AnswersOneStep, IsAnswer, AreAnswers}
use Rattle.session_core.specs.Script.{NextIs, asked_in, asked_of, reply_line, reply_lines, script_limit}
use Rattle.frame_json.specs.Replies as frame_replies
use Rattle.frame_json.specs.Requests.{unread_by}
use Rattle.frame_types.specs.declared.request.FrameCause.TheVariants as frame
use Rattle.session_core.specs.declared.script.Fault.{Fault}
use Rattle.session_core.specs.declared.script.Fault.TheVariants as stop
use Rattle.io_ends.specs.declared.sink.SinkFault.{SinkFault}
use Rattle.io_ends.specs.declared.sink.SinkFault.TheVariants as sunk
use Rattle.session_core.specs.Faults.{of_line, of_sink, fault_end}
use Rattle.session_core.specs.Outcome.{AnswersAll, AnswersFirst, LinesSoFar, Moved, Outcome}
use Rattle.session_core.specs.Underway.{Cut, IsCaughtUp, IsPartlyReplied, IsReplied, IsUnderway}

-- ---- runs of requests

-- one more request and its answer
pub AreAnswers-push : (limit : ℕ) (asked : List (ℕ × Ask)) (replies : List Reply) (h now : List Entry) (q : ℕ × Ask) (r : Reply)
    → AreAnswers limit h asked replies now → IsAnswer limit now q.0 q.1 r
    → AreAnswers limit h (asked ++ q ∷ []) (replies ++ r ∷ []) (history_after limit now (entry_of q.0 q.1 r))
AreAnswers-push limit [] [] h now q r ran answer = (subst (λ (p : List Entry). IsAnswer limit p q.0 q.1 r) ran answer, ap (λ (p : List Entry). history_after limit p (entry_of q.0 q.1 r)) ran)
AreAnswers-push limit [] (s ∷ replies) h now q r ran answer = absurd ran
AreAnswers-push limit (p ∷ asked) [] h now q r ran answer = absurd ran
AreAnswers-push limit (p ∷ asked) (s ∷ replies) h now q r ran answer =
    (ran.0, AreAnswers-push limit asked replies (history_after limit h (entry_of p.0 p.1 s)) now q r ran.1 answer)

pub map-push : (done : List (List ℕ)) (text : List ℕ) → map asked_of (done ++ text ∷ []) ≡ map asked_of done ++ asked_of text ∷ []
map-push [] text = refl
map-push (x ∷ done) text = ap (λ more. asked_of x ∷ more) (map-push done text)

pub reply_lines-push : (replies : List Reply) (r : Reply) → reply_lines (replies ++ r ∷ []) ≡ reply_lines replies ++ reply_line r
reply_lines-push [] r = append-nil (reply_line r)
reply_lines-push (s ∷ replies) r = ap (λ more. reply_line s ++ more) (reply_lines-push replies r) ∙ sym (append_assoc (reply_line s) (reply_lines replies) (reply_line r))

-- ---- the start

pub starts : (left written : Option (List ℕ)) (reader : ReaderState) (Stands : List Entry → Type 0)
    → reader ≡ record { held = []; given = 0; longest = 1048576; ended = false; failed = false } → Stands [] → IsCaughtUp left left written written reader 0 Stands
starts left written reader Stands is stands =
    let P : ReaderState → Type 0 = λ r. IsCaughtUp left left written written r 0 Stands in
    subst P (sym is) (
      [],
      [],
      [],
      [],
      record {
        consumed = Consumes-nil left;
        given = refl;
        small = omega arith;
        cut = λ more. (refl, refl);
        ran = refl;
        stands = stands;
        appended = Appends-nil written;
      },
      refl,
    )

-- ---- lines that are left

abbrev pub Splits : List (List ℕ) → List (List ℕ) → Type 0
Splits done ls = (others : List (List ℕ)) × (ls ≡ done ++ others)

-- the lines that were cut off are the first of the lines so far
cut_off : (ended : Bool) (held : List ℕ) (left : Option (List ℕ)) (came : List ℕ) (done : List (List ℕ)) → Cut ended held left came done → LinesSoFar left came (Splits done)
cut_off true held left came done cut = inr (cut.2, ([], cut.0 ∙ sym (append-nil done)))
cut_off false held left came done cut = inl (ended_lines (held ++ []), ap ended_lines (sym (append-nil came)) ∙ (cut []).1)

pub so_far : (left : Option (List ℕ)) (given : List ℕ) (P Q : List (List ℕ) → Type 0) → ((ls : List (List ℕ)) → P ls → Q ls) → LinesSoFar left given P → LinesSoFar left given Q
so_far left given P Q f (inl p) = inl (f (ended_lines given) p)
so_far left given P Q f (inr p) = inr (p.0, f (lines given) p.1)

-- ---- after a fault of the source

none_after : (held came : List ℕ) (given : ℕ) (done : List (List ℕ)) (before : List ℕ)
    → ((more : List ℕ) → (lines (before ++ more) ≡ done ++ lines (held ++ more)) × (ended_lines (before ++ more) ≡ done ++ ended_lines (held ++ more)))
    → NoEnd (held ++ came) → ended_lines (before ++ came) ≡ done
none_after held came given done before cut none = (cut came).1 ∙ ap (λ more. done ++ more) (ended_none (held ++ came) none) ∙ append-nil done

pub not_ended : (ended : Bool) (held : List ℕ) (left : Option (List ℕ)) (came : List ℕ) (done : List (List ℕ)) → ended ≡ false → Cut ended held left came done → Cut false held left came done
not_ended ended held left came done is cut = let P : Bool → Type 0 = λ b. Cut b held left came done in subst P is cut

pub now_ended : (ended : Bool) (held : List ℕ) (left : Option (List ℕ)) (came : List ℕ) (done : List (List ℕ)) → ended ≡ true → Cut ended held left came done → Cut true held left came done
now_ended ended held left came done is cut = let P : Bool → Type 0 = λ b. Cut b held left came done in subst P is cut

-- no other line is asked
none_asked : (now : List Entry) (others : List (List ℕ)) → NextIs now others [] now
none_asked now [] = (refl, refl)
none_asked now (text ∷ others) = inl (refl, refl)

-- these lines were answered, and nothing more was written
answers_all : (Stands : List Entry → Type 0) (all : List (List ℕ)) (replies : List Reply) (now : List Entry)
    → AreAnswers script_limit [] (map asked_of all) replies now → Stands now → AnswersAll Stands (reply_lines replies) all
answers_all Stands all replies now ran stands = (record { replies = replies; after = now; written = refl; ran = ran; folds = deltas_fold script_limit now }, stands)

-- the first of the lines were answered, and nothing more was asked
pub answers_first : (Stands : List Entry → Type 0) (done : List (List ℕ)) (replies : List Reply) (now : List Entry)
    → AreAnswers script_limit [] (map asked_of done) replies now → Stands now → (all : List (List ℕ)) → Splits done all → AnswersFirst Stands (reply_lines replies) all
answers_first Stands done replies now ran stands all split = (
  record {
    done = done;
    others = split.0;
    replies = replies;
    after = now;
    part = [];
    now = now;
    lines_are = split.1;
    written = sym (append-nil (reply_lines replies));
    ran = ran;
    folds = deltas_fold script_limit now;
    next = none_asked now split.0;
  },
  stands,
)

take_within : (came : List ℕ) (given given' : ℕ) → given' ≡ given + length came → given' ≤ 2 ^ 30 → take (2 ^ 30 - given) came ≡ came
take_within came given given' is within = take_all (2 ^ 30 - given) came (omega arith)

take_past : (n : ℕ) (xs ys : List ℕ) → length xs ≤ n → take n (xs ++ ys) ≡ xs ++ take (n - length xs) ys
take_past n xs ys h =
    let e : n ≡ length xs + (n - length xs) = omega arith in
    ap (λ m. take m (xs ++ ys)) e ∙ take-append-add xs ys (n - length xs)

-- the source failed, gave too much, or there was no memory for the line
pub fails : (before left left' into written : Option (List ℕ)) (reader : ReaderState) (given' : ℕ) (Stands : List Entry → Type 0) (why : LineFault)
    (came more : List ℕ) (done : List (List ℕ)) (replies : List Reply) (now : List Entry)
    → IsUnderway before left into written reader Stands came done done replies now → reader.ended ≡ false → reader.given ≤ 2 ^ 30
    → Consumes left left' more → given' ≡ reader.given + length more → LeavesNone why reader.held reader.given more
    → IsWithin (let r : Result Bool LineFault = Err why in r) given'
    → Moved before left' into written (Outcome (fault_end (of_line why)) left' Stands)
fails before left left' into written reader given' Stands fault.Read came more done replies now run still within consumes grows none bounded = (
  came ++ more,
  reply_lines replies,
  Consumes-trans before left left' came more run.consumed consumes,
  run.appended,
  (
    (
        let P : List (List ℕ) → Type 0 = λ d. AnswersAll Stands (reply_lines replies) d in
        let all : take (2 ^ 30 - reader.given) more ≡ more = take_within more reader.given given' grows bounded in
        let same : ended_lines (came ++ more) ≡ done =
        none_after reader.held more reader.given done came (not_ended reader.ended reader.held left came done still run.cut) (subst (λ (m : List ℕ). NoEnd (reader.held ++ m)) all none) in
        subst P (sym same) (answers_all Stands done replies now run.ran run.stands)
        ),
    (let size = length-append came more in let given : reader.given ≡ length came = run.given in omega arith),
  ),
)
fails before left left' into written reader given' Stands fault.TooMany came more done replies now run still within consumes grows none bounded =
    let given : reader.given ≡ length came = run.given in
    let front : List ℕ = take (2 ^ 30 - reader.given) more in
    let cut_here : take (2 ^ 30) (came ++ more) ≡ came ++ front =
    take_past (2 ^ 30) came more (omega arith) ∙ ap (λ n. came ++ take (2 ^ 30 - n) more) (sym given) in (
      came ++ more,
      reply_lines replies,
      Consumes-trans before left left' came more run.consumed consumes,
      run.appended,
      (
        (
            let P : List (List ℕ) → Type 0 = λ d. AnswersAll Stands (reply_lines replies) d in
            let same : ended_lines (take (2 ^ 30) (came ++ more)) ≡ done =
            ap ended_lines cut_here ∙ none_after reader.held front reader.given done came (not_ended reader.ended reader.held left came done still run.cut) none in
            subst P (sym same) (answers_all Stands done replies now run.ran run.stands)
            ),
        (let size = length-append came more in omega arith),
      ),
    )
fails before left left' into written reader given' Stands fault.Memory came more done replies now run still within consumes grows none bounded =
    let given : reader.given ≡ length came = run.given in
    let cut = not_ended reader.ended reader.held left came done still run.cut more in (
      came ++ more,
      reply_lines replies,
      Consumes-trans before left left' came more run.consumed consumes,
      run.appended,
      (
        inl (answers_first Stands done replies now run.ran run.stands (ended_lines (came ++ more)) (ended_lines (reader.held ++ more), cut.1)),
        (let size = length-append came more in omega arith),
      ),
    )

pub still_open : (ended : Bool) (held : List ℕ) (left : Option (List ℕ)) (came : List ℕ) (done : List (List ℕ)) → Cut ended held left came done → (ended ≡ true → held ≡ [] → ⊥) → ended ≡ false
still_open true held left came done cut h = absurd (h refl cut.1)
still_open false held left came done cut h = refl

-- ---- a line was read

-- what a call of the reader says of the line that it gave
pub record Reads (left left' : Option (List ℕ)) (reader reader' : ReaderState) (given_line : Line) (more : List ℕ) : Type 0 where
  pub consumes : Consumes left left' more
  pub grows : reader'.given ≡ reader.given + length more
  pub gives : Gives reader.longest (reader.held ++ more) given_line reader'.held reader'.ended
  pub last : reader'.ended ≡ true → reader.ended ≡ false → IsAtEnd left'
  pub after_end : reader.ended ≡ true → reader.held ≡ [] → (given_line ≡ line.End) × (left' ≡ left)
  pub takes : Takes given_line reader reader'

nothing_more : (held more : List ℕ) → held ++ more ≡ [] → more ≡ []
nothing_more [] more h = h
nothing_more (x ∷ held) more h = absurd (let wrong : x ∷ (held ++ more) ≡ [] = h in cc)

-- the line is the next one, whether the rest was read or not
cut_text : (ended' : Bool) (held held' more came : List ℕ) (left left' : Option (List ℕ)) (done : List (List ℕ)) (text : List ℕ)
    → Cut false held left came done → IsFirst (held ++ more) text held' ended' → (ended' ≡ true → IsAtEnd left')
    → Cut ended' held' left' (came ++ more) (done ++ text ∷ [])
cut_text true held held' more came left left' done text cut first last = (
  (cut more).0 ∙ ap (λ bs. done ++ lines bs) first.1.0 ∙ ap (λ ls. done ++ ls) (lines_one text first.0 first.1.2),
  first.1.1,
  last refl,
)
cut_text false held held' more came left left' done text cut first last = λ rest.
    let bytes : held ++ (more ++ rest) ≡ text ++ 10 ∷ (held' ++ rest) =
    sym (append_assoc held more rest) ∙ ap (λ bs. bs ++ rest) first.1 ∙ append_assoc text (10 ∷ held') rest in
    let moved : (came ++ more) ++ rest ≡ came ++ (more ++ rest) = append_assoc came more rest in (
      ap lines moved ∙ (cut (more ++ rest)).0 ∙ ap (λ bs. done ++ lines bs) bytes ∙ ap (λ ls. done ++ ls) (lines_at text (held' ++ rest) first.0)
          ∙ sym (append_assoc done (text ∷ []) (lines (held' ++ rest))),
      ap ended_lines moved ∙ (cut (more ++ rest)).1 ∙ ap (λ bs. done ++ ended_lines bs) bytes ∙ ap (λ ls. done ++ ls) (ended_at text (held' ++ rest) first.0)
          ∙ sym (append_assoc done (text ∷ []) (ended_lines (held' ++ rest))),
    )

length-push : (done : List (List ℕ)) (text : List ℕ) → length (done ++ text ∷ []) ≡ length done + 1
length-push done text = length-append done (text ∷ [])

with_text : (before left left' into written : Option (List ℕ)) (reader reader' : ReaderState) (Stands : List Entry → Type 0) (came more : List ℕ)
    (done : List (List ℕ)) (replies : List Reply) (now : List Entry) (text : List ℕ)
    → IsUnderway before left into written reader Stands came done done replies now → reader.ended ≡ false
    → Consumes left left' more → reader'.given ≡ reader.given + length more → IsFirst (reader.held ++ more) text reader'.held reader'.ended
    → (reader'.ended ≡ true → reader.ended ≡ false → IsAtEnd left') → reader.given + length reader'.held < reader'.given + length reader.held
    → IsUnderway before left' into written reader' Stands (came ++ more) (done ++ text ∷ []) done replies now
with_text before left left' into written reader reader' Stands came more done replies now text run still consumes grows first last takes = record {
  consumed = Consumes-trans before left left' came more run.consumed consumes;
  given = grows ∙ ap (λ n. n + length more) run.given ∙ sym (length-append came more);
  small = let small = run.small in let size = length-push done text in omega arith;
  cut = cut_text reader'.ended reader.held reader'.held more came left left' done text (not_ended reader.ended reader.held left came done still run.cut) first (λ e. last e still);
  ran = run.ran;
  stands = run.stands;
  appended = run.appended;
}

unread_long : (text : List ℕ) → 1048576 < length text → unread_by frame.Long ≡ asked_of text
unread_long text h = let long : ltb 1048576 (length text) ≡ true = grind (arith, nat_tests) in rw long refl

-- a line that asks something
pub reads_line : (before left left' into written : Option (List ℕ)) (reader reader' : ReaderState) (Stands : List Entry → Type 0) (came more : List ℕ)
    (done : List (List ℕ)) (replies : List Reply) (now : List Entry) (l : Line) (q : ℕ × Ask) → reader.longest ≡ 1048576
    → IsUnderway before left into written reader Stands came done done replies now → Reads left left' reader reader' l more → asked_in l ≡ Some q
    → (text : List ℕ) × (asked_of text ≡ q) × IsUnderway before left' into written reader' Stands (came ++ more) (done ++ text ∷ []) done replies now
reads_line before left left' into written reader reader' Stands came more done replies now (line.Words text) q longest run read asks =
    let still = still_open reader.ended reader.held left came done run.cut (λ e n. let wrong : line.Words text ≡ line.End = (read.after_end e n).0 in cc) in
    (text, (let is : Some (asked_of text) ≡ Some q = asks in cc), with_text before left left' into written reader reader' Stands came more done replies now text run still read.consumes read.grows read.gives.1 read.last read.takes)
reads_line before left left' into written reader reader' Stands came more done replies now line.Long q longest run read asks =
    let still = still_open reader.ended reader.held left came done run.cut (λ e n. let wrong : line.Long ≡ line.End = (read.after_end e n).0 in cc) in
    let text : List ℕ = read.gives.0 in
    let long : reader.longest < length text = read.gives.1 in
    let is : Some (unread_by frame.Long) ≡ Some q = asks in
    let same : unread_by frame.Long ≡ asked_of text = unread_long text (omega arith) in
    (text, (cc), with_text before left left' into written reader reader' Stands came more done replies now text run still read.consumes read.grows read.gives.2 read.last read.takes)
reads_line before left left' into written reader reader' Stands came more done replies now line.End q longest run read asks =
    absurd (let wrong : None ≡ Some q = asks in cc)

-- no line is left
pub reads_end : (before left left' into written : Option (List ℕ)) (reader reader' : ReaderState) (Stands : List Entry → Type 0) (came more : List ℕ)
    (done : List (List ℕ)) (replies : List Reply) (now : List Entry) (l : Line)
    → IsUnderway before left into written reader Stands came done done replies now → Reads left left' reader reader' l more → asked_in l ≡ None
    → IsUnderway before left' into written reader' Stands (came ++ more) done done replies now
reads_end before left left' into written reader reader' Stands came more done replies now (line.Words text) run read asks = absurd (let wrong : Some (asked_of text) ≡ None = asks in cc)
reads_end before left left' into written reader reader' Stands came more done replies now line.Long run read asks = absurd (let wrong : Some (unread_by frame.Long) ≡ None = asks in cc)
reads_end before left left' into written reader reader' Stands came more done replies now line.End run read asks =
    let none : more ≡ [] = nothing_more reader.held more read.gives.0 in
    let all : came ++ more ≡ came = ap (λ bs. came ++ bs) none ∙ append-nil came in
    let empty : reader'.held ≡ [] = read.gives.1 in
    let ended : reader'.ended ≡ true = read.gives.2 in record {
      consumed = Consumes-trans before left left' came more run.consumed read.consumes;
      given = read.grows ∙ ap (λ n. n + length more) run.given ∙ sym (length-append came more);
      small = let small = run.small in let grows = read.grows in let nothing : length reader'.held ≡ 0 = ap length empty in omega arith;
      cut = let P : Bool → Type 0 = λ b. Cut b reader'.held left' (came ++ more) done in
          subst P (sym ended) (end_cut reader.ended reader.held left left' came more done run.cut read.gives.0 none (λ e. read.last ended e) (λ e n. (read.after_end e n).1), empty, end_left reader.ended reader.held left left' came done run.cut (λ e. read.last ended e) (λ e n. (read.after_end e n).1));
      ran = run.ran;
      stands = run.stands;
      appended = run.appended;
    }
  where
    end_cut : (b : Bool) (held : List ℕ) (left left' : Option (List ℕ)) (came more : List ℕ) (done : List (List ℕ)) → Cut b held left came done → held ++ more ≡ [] → more ≡ []
        → (b ≡ false → IsAtEnd left') → (b ≡ true → held ≡ [] → left' ≡ left) → lines (came ++ more) ≡ done
    end_cut true held left left' came more done cut all none last same = ap (λ bs. lines (came ++ bs)) none ∙ ap lines (append-nil came) ∙ cut.0
    end_cut false held left left' came more done cut all none last same = (cut more).0 ∙ ap (λ bs. done ++ lines bs) all ∙ append-nil done

    end_left : (b : Bool) (held : List ℕ) (left left' : Option (List ℕ)) (came : List ℕ) (done : List (List ℕ)) → Cut b held left came done
        → (b ≡ false → IsAtEnd left') → (b ≡ true → held ≡ [] → left' ≡ left) → IsAtEnd left'
    end_left true held left left' came done cut last same = subst IsAtEnd (sym (same refl cut.1)) cut.2
    end_left false held left left' came done cut last same = last refl

-- ---- what was written when it stops

-- there was no memory for a line that was read
pub lost : (before left left' into written : Option (List ℕ)) (reader reader' : ReaderState) (Stands : List Entry → Type 0) (came more : List ℕ)
    (done : List (List ℕ)) (replies : List Reply) (now : List Entry) (l : Line)
    → IsUnderway before left into written reader Stands came done done replies now → Reads left left' reader reader' l more → reader'.given ≤ 2 ^ 30
    → Moved before left' into written (Outcome (fault_end stop.Memory) left' Stands)
lost before left left' into written reader reader' Stands came more done replies now l run read within = (
  came ++ more,
  reply_lines replies,
  Consumes-trans before left left' came more run.consumed read.consumes,
  run.appended,
  (
    so_far left' (came ++ more) (Splits done) (AnswersFirst Stands (reply_lines replies)) (answers_first Stands done replies now run.ran run.stands)
        (after_line reader.ended reader.held left left' came more done run.cut (λ e n. (nothing_at reader more l reader'.held reader'.ended (read.after_end e n).0 read.gives, (read.after_end e n).1))),
    (let size = length-append came more in let grows = read.grows in let given = run.given in omega arith),
  ),
)
  where
    nothing_at : (reader : ReaderState) (more : List ℕ) (l : Line) (held' : List ℕ) (ended' : Bool) → l ≡ line.End → Gives reader.longest (reader.held ++ more) l held' ended' → more ≡ []
    nothing_at reader more (line.Words text) held' ended' is gives = absurd (let wrong : line.Words text ≡ line.End = is in cc)
    nothing_at reader more line.Long held' ended' is gives = absurd (let wrong : line.Long ≡ line.End = is in cc)
    nothing_at reader more line.End held' ended' is gives = nothing_more reader.held more gives.0

    after_line : (b : Bool) (held : List ℕ) (left left' : Option (List ℕ)) (came more : List ℕ) (done : List (List ℕ)) → Cut b held left came done
        → (b ≡ true → held ≡ [] → (more ≡ []) × (left' ≡ left)) → LinesSoFar left' (came ++ more) (Splits done)
    after_line true held left left' came more done cut at_end =
        let same = at_end refl cut.1 in
        inr (subst IsAtEnd (sym same.1) cut.2, ([], ap (λ bs. lines (came ++ bs)) same.0 ∙ ap lines (append-nil came) ∙ cut.0 ∙ sym (append-nil done)))
    after_line false held left left' came more done cut at_end = inl (ended_lines (held ++ more), (cut more).1)

-- the first of the lines were answered, and the next one was asked, whose reply line is cut short
pub stops : (before left into written written' : Option (List ℕ)) (reader : ReaderState) (Stands Stands' : List Entry → Type 0) (came : List ℕ) (done : List (List ℕ)) (text : List ℕ)
    (replies : List Reply) (now : List Entry)
    → IsUnderway before left into written reader Stands came (done ++ text ∷ []) done replies now → IsPartlyReplied script_limit now (asked_of text) Stands' written written'
    → (part : List ℕ) × Appends into written' (reply_lines replies ++ part) × LinesSoFar left came (AnswersFirst Stands' (reply_lines replies ++ part))
stops before left into written written' reader Stands Stands' came done text replies now run p =
    let part : List ℕ = take p.2 (reply_line p.0) in (
      part,
      Appends-trans into written written' (reply_lines replies) part run.appended p.4,
      so_far left came (Splits (done ++ text ∷ [])) (AnswersFirst Stands' (reply_lines replies ++ part)) (λ all split. (
        record {
          done = done;
          others = text ∷ split.0;
          replies = replies;
          after = now;
          part = part;
          now = history_after script_limit now (entry_of (asked_of text).0 (asked_of text).1 p.0);
          lines_are = split.1 ∙ append_assoc done (text ∷ []) split.0;
          written = refl;
          ran = run.ran;
          folds = deltas_fold script_limit now;
          next = inr (record { reply = p.0; answer = p.1.answer; now_is = refl; taken = p.2; short = p.3; front = refl });
        },
        p.1.stands,
      )) (cut_off reader.ended reader.held left came (done ++ text ∷ []) run.cut),
    )

-- memory or the sink failed
pub stopped : (f : Fault) (left : Option (List ℕ)) (Stands : List Entry → Type 0) (given out : List ℕ) → (f ≡ stop.Read → ⊥) → (f ≡ stop.TooLong → ⊥)
    → LinesSoFar left given (AnswersFirst Stands out) → length given ≤ 2 ^ 30 → Outcome (fault_end f) left Stands given out
stopped stop.Memory left Stands given out read many partly within = (partly, within)
stopped stop.Write left Stands given out read many partly within = (partly, within)
stopped stop.Read left Stands given out read many partly within = absurd (read refl)
stopped stop.TooLong left Stands given out read many partly within = absurd (many refl)

-- ---- the request was answered

pub answers : (before left into written written' : Option (List ℕ)) (reader : ReaderState) (Stands Stands' : List Entry → Type 0) (came : List ℕ) (done : List (List ℕ)) (text : List ℕ)
    (replies : List Reply) (now : List Entry)
    → IsUnderway before left into written reader Stands came (done ++ text ∷ []) done replies now → (a : IsReplied script_limit now (asked_of text) Stands' written written')
    → IsUnderway before left into written' reader Stands' came (done ++ text ∷ []) (done ++ text ∷ []) (replies ++ a.0 ∷ []) (history_after script_limit now (entry_of (asked_of text).0 (asked_of text).1 a.0))
answers before left into written written' reader Stands Stands' came done text replies now run a = record {
  consumed = run.consumed;
  given = run.given;
  small = run.small;
  cut = run.cut;
  ran =
      let P : List (ℕ × Ask) → Type 0 = λ qs. AreAnswers script_limit [] qs (replies ++ a.0 ∷ []) (history_after script_limit now (entry_of (asked_of text).0 (asked_of text).1 a.0)) in
      subst P (sym (map-push done text)) (AreAnswers-push script_limit (map asked_of done) replies [] now (asked_of text) a.0 run.ran a.1.answer);
  stands = a.1.stands;
  appended = subst (Appends into written') (sym (reply_lines-push replies a.0)) (Appends-trans into written written' (reply_lines replies) (reply_line a.0) run.appended a.2);
}

-- of a reply line nothing was written, which isn't all of it
pub none_written : (limit : ℕ) (h : List Entry) (asked : ℕ × Ask) (Stands : List Entry → Type 0) (written : Option (List ℕ)) (reply : Reply)
    → AnswersOneStep limit h asked.0 asked.1 reply Stands → IsPartlyReplied limit h asked Stands written written
none_written limit h asked Stands written reply step =
    let size : length (reply_line reply) ≡ length (frame_replies.text reply) + 1 = length-append (frame_replies.text reply) (10 ∷ []) in
    (reply, step, 0, (omega arith), Appends-nil written)

-- ---- the whole script

-- nothing was read and nothing written
pub fresh : (left written : Option (List ℕ)) (Stands : List Entry → Type 0) → Stands [] → Moved left left written written (Outcome (fault_end stop.Memory) left Stands)
fresh left written Stands stands = ([], [], Consumes-nil left, Appends-nil written, (inl (answers_first Stands [] [] [] refl stands [] ([], refl)), omega arith))

-- all lines were answered
pub finished : (before left into written : Option (List ℕ)) (reader : ReaderState) (Stands : List Entry → Type 0) (came : List ℕ) (done : List (List ℕ)) (replies : List Reply) (now : List Entry) (count : ℕ)
    → IsUnderway before left into written reader Stands came done done replies now → reader.ended ≡ true → count ≡ length done → reader.given ≤ 2 ^ 30
    → IsAtEnd left × AnswersAll Stands (reply_lines replies) (lines came) × (count ≡ length (lines came)) × (length came ≤ 2 ^ 30)
finished before left into written reader Stands came done replies now count run ended is within =
    let cut = now_ended reader.ended reader.held left came done ended run.cut in
    let P : List (List ℕ) → Type 0 = λ d. AnswersAll Stands (reply_lines replies) d in (
      cut.2,
      subst P (sym cut.0) (answers_all Stands done replies now run.ran run.stands),
      is ∙ ap length (sym cut.0),
      (let given = run.given in omega arith),
    )

-- all lines were answered, and the sink failed at last
pub unfinished : (before left into written : Option (List ℕ)) (reader : ReaderState) (Stands : List Entry → Type 0) (came : List ℕ) (done : List (List ℕ)) (replies : List Reply) (now : List Entry) (why : SinkFault)
    → IsUnderway before left into written reader Stands came done done replies now → reader.given ≤ 2 ^ 30
    → Outcome (fault_end (of_sink why)) left Stands came (reply_lines replies)
unfinished before left into written reader Stands came done replies now why run within =
    sunk_end why (
      so_far left came (Splits done) (AnswersFirst Stands (reply_lines replies)) (answers_first Stands done replies now run.ran run.stands)
          (cut_off reader.ended reader.held left came done run.cut),
      (let given = run.given in omega arith),
    )
  where
    sunk_end : (why : SinkFault) → LinesSoFar left came (AnswersFirst Stands (reply_lines replies)) × (length came ≤ 2 ^ 30) → Outcome (fault_end (of_sink why)) left Stands came (reply_lines replies)
    sunk_end sunk.Failed h = h
    sunk_end sunk.Memory h = h

pub one_more : (count size given : ℕ) → count ≡ size + 1 → size + 1 ≤ given → given ≤ 2 ^ 30 → min count (2 ^ 64 - 1) ≡ size + 1
one_more count size given is small within = omega arith
