use Rattle.std.proofs.Common.{rules}
use Rattle.std.proofs.KnownBytes.{Appends-trans}
use Rattle.std.proofs.Math.Seq.{take-add}
use Rattle.std.proofs.lemmas.List.{take_rest}
use Rattle.io_ends.proofs.sink.write_whole.Goals as goal

pub pieces-preserved : goal.pieces-preserved
pieces-preserved g c = record {
  within = search rules;
  bytes = rw (take-add c.pieces.taken c.in_ok-taken.field-0 c.args.bytes.now) (Appends-trans (g.K.Sink.written c.args.sink.now) (g.K.Sink.written c.pieces.sink) (g.K.Sink.written c.write.new.self) _ _ c.pieces.invariant.bytes (rw take_rest at c.in_ok-taken.ensures.bytes));
  count = search rules;
}
