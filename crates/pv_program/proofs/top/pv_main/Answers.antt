use Rattle.std.proofs.Common.{ℕ, ◌≡◌, Bool, sym, ap, ◌∙◌, subst}
use Rattle.std.specs.Bool.{◌==◌}
use Rattle.io_ends.specs.Causes.{Counts}
use Rattle.hub_core.specs.Callers.{hub_of}
use Rattle.hub_core.specs.Standing.{StandsFor}
use Rattle.session_core.specs.Outcome.{Outcome}
use Rattle.pv_program.specs.Statuses.{StatusSays}
use Rattle.pv_program.proofs.StatusLemmas.{nothing_moved, wrong_words, without_memory, moved, status_says, shows_read, shows_write}
use Rattle.pv_program.proofs.top.pv_main.Goals as goal

pub returns-then-not-is_script-clause-ran : goal.returns-then-not-is_script-clause-ran
returns-then-not-is_script-clause-ran g c =
    let left = g.S.Source.left c.args.source.now in
    nothing_moved left (g.K.Sink.written c.args.sink.now) (λ given out. StatusSays 2 left given out) (wrong_words left)

pub returns-in-Ok-clause-ran : goal.returns-in-Ok-clause-ran
returns-in-Ok-clause-ran g c =
    let left = g.S.Source.left c.run_script.new.source in
    moved (g.S.Source.left c.args.source.now) left (g.K.Sink.written c.args.sink.now) (g.K.Sink.written c.run_script.new.sink)
    (Outcome c.run_script.result left (StandsFor (hub_of c.run_script.new.caller))) (λ given out. StatusSays c.status_of.result.code left given out)
    (λ given out h. let P : ℕ → Type 0 = λ n. StatusSays n left given out in subst P (sym c.status_of.ensures) (status_says c.run_script.result left (StandsFor (hub_of c.run_script.new.caller)) given out h))
    c.run_script.ensures.ran

pub returns-in-Err-clause-ran : goal.returns-in-Err-clause-ran
returns-in-Err-clause-ran g c =
    let left = g.S.Source.left c.args.source.now in
    nothing_moved left (g.K.Sink.written c.args.sink.now) (λ given out. StatusSays 1 left given out) (without_memory left)

pub returns-in-Ok-clause-read : goal.returns-in-Ok-clause-read
returns-in-Ok-clause-read g c =
    let P : Bool → Type 0 = λ b. Counts b (g.S.Source.faults c.args.source.now) (g.S.Source.faults c.run_script.new.source) in
    subst P (shows_read c.run_script.result ∙ ap (λ n. n == 4) (sym c.status_of.ensures)) c.run_script.ensures.read

pub returns-in-Ok-clause-write : goal.returns-in-Ok-clause-write
returns-in-Ok-clause-write g c =
    let P : Bool → Type 0 = λ b. Counts b (g.K.Sink.faults c.args.sink.now) (g.K.Sink.faults c.run_script.new.sink) in
    subst P (shows_write c.run_script.result ∙ ap (λ n. n == 5) (sym c.status_of.ensures)) c.run_script.ensures.write
