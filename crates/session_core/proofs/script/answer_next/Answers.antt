use Rattle.std.proofs.Common.{◌≡◌, ℕ, ◌+◌, ◌^◌, ◌≤◌, [], ◌∷◌, ◌++◌, Some, None, Err, option_map, sym, ap, ◌∙◌, subst, length-append, arith}
use Rattle.std.proofs.lemmas.Result.{err_from_is_err_and}
use Rattle.frame_types.specs.Asks.{Ask, asked_view}
use Rattle.session_core.specs.Script.{asked_in, reply_lines, script_limit}
use Rattle.session_core.specs.Underway.{IsReplied, IsPartlyReplied}
use Rattle.session_core.proofs.UnderwayLemmas.{Reads, still_open, fails, reads_line, reads_end, lost, stops, stopped, answers}
use Rattle.session_core.proofs.script.answer_next.Goals as goal

pub returns-in_err-line-clause-err : goal.returns-in_err-line-clause-err
returns-in_err-line-clause-err g c =
    let p = err_from_is_err_and c.from_residual.result c.from_residual.ensures.1 in
    rw (p.1, p.2)
    (λ before into count runs.
    let run = runs.4 in
    let came = c.in_err-line.ensures.fault in
    let open_ = still_open c.args.reader.now.ended c.args.reader.now.held (g.S.Source.left c.args.source.now) runs.0 runs.1 run.cut
    (λ e n. let wrong = (c.in_err-line.ensures.ended e n).0 in cc) in
    fails before (g.S.Source.left c.args.source.now) (g.S.Source.left c.next.new.source) into (g.K.Sink.written c.args.sink.now) c.args.reader.now c.next.new.self.given
    (g.C.Caller.stands c.args.caller.now) c.in_err-line.field-0.0 runs.0 came.0 runs.1 runs.2 runs.3 run open_ c.requires.within came.1 came.2 came.3 c.in_err-line.ensures.within)

pub returns-in_err-asked-clause-err : goal.returns-in_err-asked-clause-err
returns-in_err-asked-clause-err g c =
    let p = err_from_is_err_and c.from_residual-in_err-asked.result c.from_residual-in_err-asked.ensures.1 in
    let read : Reads (g.S.Source.left c.args.source.now) (g.S.Source.left c.next.new.source) c.args.reader.now c.next.new.self c.in_ok-line.line c.in_ok-line.ensures.line.0 = record {
      consumes = c.in_ok-line.ensures.line.1;
      grows = c.in_ok-line.ensures.line.2;
      gives = c.in_ok-line.ensures.line.3;
      last = λ e s. c.in_ok-line.ensures.end e s;
      after_end = λ e n. let same = c.in_ok-line.ensures.ended e n in (let is = same.0 in cc, ap g.S.Source.left same.1);
      takes = c.in_ok-line.ensures.takes;
    } in
    rw (p.1, p.2)
    (λ before into count runs.
    lost before (g.S.Source.left c.args.source.now) (g.S.Source.left c.next.new.source) into (g.K.Sink.written c.args.sink.now) c.args.reader.now c.next.new.self
    (g.C.Caller.stands c.args.caller.now) runs.0 c.in_ok-line.ensures.line.0 runs.1 runs.2 runs.3 c.in_ok-line.line runs.4 read c.in_ok-line.ensures.within)

pub returns-in_default-clause-ok : goal.returns-in_default-clause-ok
returns-in_default-clause-ok g c =
    let none : asked_in c.in_ok-line.line ≡ None = sym c.in_ok-asked.ensures.asked ∙ ap (option_map asked_view) c.in_default.is in
    let read : Reads (g.S.Source.left c.args.source.now) (g.S.Source.left c.next.new.source) c.args.reader.now c.next.new.self c.in_ok-line.line c.in_ok-line.ensures.line.0 = record {
      consumes = c.in_ok-line.ensures.line.1;
      grows = c.in_ok-line.ensures.line.2;
      gives = c.in_ok-line.ensures.line.3;
      last = λ e s. c.in_ok-line.ensures.end e s;
      after_end = λ e n. let same = c.in_ok-line.ensures.ended e n in (let is = same.0 in cc, ap g.S.Source.left same.1);
      takes = c.in_ok-line.ensures.takes;
    } in
    λ before into count runs. (
      runs.0 ++ c.in_ok-line.ensures.line.0,
      runs.1,
      runs.2,
      runs.3,
      reads_end before (g.S.Source.left c.args.source.now) (g.S.Source.left c.next.new.source) into (g.K.Sink.written c.args.sink.now) c.args.reader.now c.next.new.self
          (g.C.Caller.stands c.args.caller.now) runs.0 c.in_ok-line.ensures.line.0 runs.1 runs.2 runs.3 c.in_ok-line.line runs.4 read none,
      runs.5,
    )

pub returns-in_err-answer-clause-err : goal.returns-in_err-answer-clause-err
returns-in_err-answer-clause-err g c =
    let p = err_from_is_err_and c.from_residual-in_err-answer.result c.from_residual-in_err-answer.ensures.1 in
    let some : asked_in c.in_ok-line.line ≡ Some (asked_view c.in-Some.asked) = sym c.in_ok-asked.ensures.asked ∙ ap (option_map asked_view) c.in-Some.is in
    let read : Reads (g.S.Source.left c.args.source.now) (g.S.Source.left c.next.new.source) c.args.reader.now c.next.new.self c.in_ok-line.line c.in_ok-line.ensures.line.0 = record {
      consumes = c.in_ok-line.ensures.line.1;
      grows = c.in_ok-line.ensures.line.2;
      gives = c.in_ok-line.ensures.line.3;
      last = λ e s. c.in_ok-line.ensures.end e s;
      after_end = λ e n. let same = c.in_ok-line.ensures.ended e n in (let is = same.0 in cc, ap g.S.Source.left same.1);
      takes = c.in_ok-line.ensures.takes;
    } in
    rw (p.1, p.2)
    (λ before into count runs.
    let line = reads_line before (g.S.Source.left c.args.source.now) (g.S.Source.left c.next.new.source) into (g.K.Sink.written c.args.sink.now) c.args.reader.now c.next.new.self
    (g.C.Caller.stands c.args.caller.now) runs.0 c.in_ok-line.ensures.line.0 runs.1 runs.2 runs.3 c.in_ok-line.line (asked_view c.in-Some.asked) c.requires.longest runs.4 read some in
    let P : ℕ → Type 0 = λ n. IsPartlyReplied n runs.3 (asked_view c.in-Some.asked) (g.C.Caller.stands c.answer.new.caller) (g.K.Sink.written c.args.sink.now) (g.K.Sink.written c.answer.new.sink) in
    let here = subst P c.requires.limit (c.in_err-answer.ensures.partly runs.3 runs.4.stands) in
    let Q : ℕ × Ask → Type 0 = λ q. IsPartlyReplied script_limit runs.3 q (g.C.Caller.stands c.answer.new.caller) (g.K.Sink.written c.args.sink.now) (g.K.Sink.written c.answer.new.sink) in
    let stop = stops before (g.S.Source.left c.next.new.source) into (g.K.Sink.written c.args.sink.now) (g.K.Sink.written c.answer.new.sink) c.next.new.self (g.C.Caller.stands c.args.caller.now)
    (g.C.Caller.stands c.answer.new.caller) (runs.0 ++ c.in_ok-line.ensures.line.0) runs.1 line.0 runs.2 runs.3 line.2 (subst Q (sym line.1) here) in (
      runs.0 ++ c.in_ok-line.ensures.line.0,
      reply_lines runs.2 ++ stop.0,
      line.2.consumed,
      stop.1,
      stopped c.in_err-answer.field-0.0 (g.S.Source.left c.next.new.source) (g.C.Caller.stands c.answer.new.caller) (runs.0 ++ c.in_ok-line.ensures.line.0) (reply_lines runs.2 ++ stop.0)
          (λ e. c.in_err-answer.ensures.no_read (ap Err e)) (λ e. c.in_err-answer.ensures.no_many (ap Err e)) stop.2
          (let within : c.next.new.self.given ≤ 2 ^ 30 = c.in_ok-line.ensures.within in let given = line.2.given in omega arith),
    ))

pub returns-clause-ok : goal.returns-clause-ok
returns-clause-ok g c =
    let some : asked_in c.in_ok-line.line ≡ Some (asked_view c.in-Some.asked) = sym c.in_ok-asked.ensures.asked ∙ ap (option_map asked_view) c.in-Some.is in
    let read : Reads (g.S.Source.left c.args.source.now) (g.S.Source.left c.next.new.source) c.args.reader.now c.next.new.self c.in_ok-line.line c.in_ok-line.ensures.line.0 = record {
      consumes = c.in_ok-line.ensures.line.1;
      grows = c.in_ok-line.ensures.line.2;
      gives = c.in_ok-line.ensures.line.3;
      last = λ e s. c.in_ok-line.ensures.end e s;
      after_end = λ e n. let same = c.in_ok-line.ensures.ended e n in (let is = same.0 in cc, ap g.S.Source.left same.1);
      takes = c.in_ok-line.ensures.takes;
    } in
    λ before into count runs.
    let line = reads_line before (g.S.Source.left c.args.source.now) (g.S.Source.left c.next.new.source) into (g.K.Sink.written c.args.sink.now) c.args.reader.now c.next.new.self
    (g.C.Caller.stands c.args.caller.now) runs.0 c.in_ok-line.ensures.line.0 runs.1 runs.2 runs.3 c.in_ok-line.line (asked_view c.in-Some.asked) c.requires.longest runs.4 read some in
    let done = c.in_ok-answer.ensures.replied runs.3 runs.4.stands in
    let P : ℕ → Type 0 = λ n. IsReplied n runs.3 (asked_view c.in-Some.asked) (g.C.Caller.stands c.answer.new.caller) (g.K.Sink.written c.args.sink.now) (g.K.Sink.written c.answer.new.sink) in
    let here = subst P c.requires.limit done in
    let Q : ℕ × Ask → Type 0 = λ q. IsReplied script_limit runs.3 q (g.C.Caller.stands c.answer.new.caller) (g.K.Sink.written c.args.sink.now) (g.K.Sink.written c.answer.new.sink) in
    let replied = subst Q (sym line.1) here in (
      runs.0 ++ c.in_ok-line.ensures.line.0,
      runs.1 ++ line.0 ∷ [],
      runs.2 ++ replied.0 ∷ [],
      _,
      answers before (g.S.Source.left c.next.new.source) into (g.K.Sink.written c.args.sink.now) (g.K.Sink.written c.answer.new.sink) c.next.new.self (g.C.Caller.stands c.args.caller.now)
          (g.C.Caller.stands c.answer.new.caller) (runs.0 ++ c.in_ok-line.ensures.line.0) runs.1 line.0 runs.2 runs.3 line.2 replied,
      ap (λ n. n + 1) runs.5 ∙ sym (length-append runs.1 (line.0 ∷ [])),
    )
