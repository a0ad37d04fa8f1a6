use Rattle.std.proofs.lemmas.Result.{err_from_is_err_and}
use Rattle.frame_types.specs.Asks.{asked_view}
use Rattle.session_core.proofs.UnderwayLemmas.{none_written}
use Rattle.session_core.proofs.script.answer.Goals as goal

pub returns-in_err-line-clause-partly : goal.returns-in_err-line-clause-partly
returns-in_err-line-clause-partly g c =
    let p = err_from_is_err_and c.from_residual.result c.from_residual.ensures.1 in
    rw p.1 (λ h stands.
    none_written (g.C.Caller.limit c.args.caller.now) h (asked_view c.args.asked) (g.C.Caller.stands c.call_alone-reply.new.caller) (g.K.Sink.written c.args.sink.now)
    c.call_alone-reply.result (c.call_alone-reply.ensures.steps h stands))
