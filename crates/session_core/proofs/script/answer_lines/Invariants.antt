use Rattle.std.proofs.Common.{◌≡◌, ◌+◌, ◌-◌, ◌^◌, ◌≤◌, false, length}
use Rattle.session_core.specs.Script.{script_limit}
use Rattle.hub_spec.specs.Callers.{SpeaksForAll}
use Rattle.session_core.specs.Underway.{IsCaughtUp}
use Rattle.session_core.proofs.script.answer_lines.Given as goal

abbrev pub invariant-lines : goal.invariant-lines
invariant-lines g l = record {
  running : IsCaughtUp (g.S.Source.left l.initial.source) (g.S.Source.left l.source) (g.K.Sink.written l.initial.sink) (g.K.Sink.written l.sink) l.reader l.count (g.C.Caller.stands l.caller);
  usable : l.reader.failed ≡ false;
  within : l.reader.given ≤ 2 ^ 30;
  longest : l.reader.longest ≡ 1048576;
  alone : SpeaksForAll (g.C.Caller.speaks l.caller);
  limit : g.C.Caller.limit l.caller ≡ script_limit;
  read : g.S.Source.faults l.source ≡ g.S.Source.faults l.initial.source;
  write : g.K.Sink.faults l.sink ≡ g.K.Sink.faults l.initial.sink;
}

abbrev pub decreases-lines : goal.decreases-lines
decreases-lines g l = 2 ^ 30 + length l.reader.held - l.reader.given
