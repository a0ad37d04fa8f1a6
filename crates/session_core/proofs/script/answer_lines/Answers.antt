use Rattle.std.proofs.Common.{◌≡◌, ◌+◌, ◌^◌, ◌≤◌, true, false, sym, ap, ◌∙◌, refl, arith, rules}
use Rattle.std.proofs.lemmas.Result.{err_from_is_err_and}
use Rattle.std.proofs.KnownBytes.{Appends-kept}
use Rattle.session_core.specs.Script.{reply_lines}
use Rattle.session_core.specs.Underway.{counted}
use Rattle.session_core.proofs.UnderwayLemmas.{starts, fresh, finished, unfinished}
use Rattle.session_core.proofs.script.answer_lines.Goals as goal

pub returns-in_err-reader-clause-ran : goal.returns-in_err-reader-clause-ran
returns-in_err-reader-clause-ran g c =
    let p = err_from_is_err_and c.from_residual.result c.from_residual.ensures.1 in
    rw (p.1, p.2) (fresh (g.S.Source.left c.args.source.now) (g.K.Sink.written c.args.sink.now) (g.C.Caller.stands c.args.caller.now) c.requires.stands)

pub lines-init : goal.lines-init
lines-init g c =
    let is = c.in_ok-reader.ensures in record {
      running = starts (g.S.Source.left c.args.source.now) (g.K.Sink.written c.args.sink.now) c.in_ok-reader.reader (g.C.Caller.stands c.args.caller.now) is c.requires.stands;
      usable = ap (λ r. r.failed) is;
      within = let given = ap (λ r. r.given) is in omega arith;
      longest = ap (λ r. r.longest) is;
      alone = c.requires.alone;
      limit = c.requires.limit;
      read = refl;
      write = refl;
    }

pub returns-in_err-answer_next-clause-ran : goal.returns-in_err-answer_next-clause-ran
returns-in_err-answer_next-clause-ran g c =
    let p = err_from_is_err_and c.from_residual-in_err-answer_next.result c.from_residual-in_err-answer_next.ensures.1 in
    rw (p.1, p.2) (c.in_err-answer_next.ensures.err (g.S.Source.left c.args.source.now) (g.K.Sink.written c.args.sink.now) c.lines.count c.lines.invariant.running)

pub lines-preserved : goal.lines-preserved
lines-preserved g c =
    let more : c.in_ok-answer_next.field-0 ≡ true = search rules in
    let before = g.S.Source.left c.args.source.now in
    let into = g.K.Sink.written c.args.sink.now in
    let runs = c.in_ok-answer_next.ensures.ok before into c.lines.count c.lines.invariant.running in
    let one : counted c.in_ok-answer_next.field-0 c.lines.count ≡ c.lines.count + 1 = ap (λ b. counted b c.lines.count) more in
    let small = runs.4.small in
    let within : c.answer_next.new.reader.given ≤ 2 ^ 30 = c.in_ok-answer_next.ensures.within in
    let size = runs.5 in
    record {
      running = (runs.0, runs.1, runs.2, runs.3, runs.4, omega (arith, c.saturating_add-count.ensures));
      usable = c.in_ok-answer_next.ensures.usable;
      within = within;
      longest = c.answer_next.ensures.longest;
      alone = c.answer_next.ensures.alone;
      limit = c.answer_next.ensures.limit;
      read = c.in_ok-answer_next.ensures.read.rose ∙ c.lines.invariant.read;
      write = c.in_ok-answer_next.ensures.write.rose ∙ c.lines.invariant.write;
    }

pub returns-in_err-flush-clause-ran : goal.returns-in_err-flush-clause-ran
returns-in_err-flush-clause-ran g c =
    let p = err_from_is_err_and c.from_residual-in_err-flush.result c.from_residual-in_err-flush.ensures.1 in
    let before = g.S.Source.left c.args.source.now in
    let into = g.K.Sink.written c.args.sink.now in
    let runs = c.in_ok-answer_next.ensures.ok before into c.lines.count c.lines.invariant.running in
    rw (p.1, p.2) (
      runs.0,
      reply_lines runs.2,
      runs.4.consumed,
      Appends-kept into (g.K.Sink.written c.answer_next.new.sink) (g.K.Sink.written c.flush.new.self) (reply_lines runs.2) runs.4.appended c.in_err-flush.ensures.bytes,
      unfinished before (g.S.Source.left c.answer_next.new.source) into (g.K.Sink.written c.answer_next.new.sink) c.answer_next.new.reader (g.C.Caller.stands c.answer_next.new.caller)
          runs.0 runs.1 runs.2 runs.3 c.in_err-flush.field-0.0 runs.4 c.in_ok-answer_next.ensures.within,
    )

pub returns-clause-ran : goal.returns-clause-ran
returns-clause-ran g c =
    let last : c.in_ok-answer_next.field-0 ≡ false = search rules in
    let before = g.S.Source.left c.args.source.now in
    let into = g.K.Sink.written c.args.sink.now in
    let runs = c.in_ok-answer_next.ensures.ok before into c.lines.count c.lines.invariant.running in
    let same : counted c.in_ok-answer_next.field-0 c.lines.count ≡ c.lines.count = ap (λ b. counted b c.lines.count) last in (
      runs.0,
      reply_lines runs.2,
      runs.4.consumed,
      Appends-kept into (g.K.Sink.written c.answer_next.new.sink) (g.K.Sink.written c.flush.new.self) (reply_lines runs.2) runs.4.appended c.in_ok-flush.ensures.bytes,
      finished before (g.S.Source.left c.answer_next.new.source) into (g.K.Sink.written c.answer_next.new.sink) c.answer_next.new.reader (g.C.Caller.stands c.answer_next.new.caller)
          runs.0 runs.1 runs.2 runs.3 c.lines.count runs.4 (c.in_ok-answer_next.ensures.last last) (sym same ∙ runs.5) c.in_ok-answer_next.ensures.within,
    )
