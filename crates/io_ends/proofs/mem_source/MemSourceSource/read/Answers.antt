use Rattle.std.proofs.Common.{arith, length, drop}
use Rattle.std.proofs.lemmas.List.{take_rest}
use Rattle.io_ends.proofs.Cuts.{copied_front, none_left}
use Rattle.io_ends.proofs.mem_source.MemSourceSource.read.Goals as goal

pub returns-clause-bytes : goal.returns-clause-bytes
returns-clause-bytes c =
    let s = c.self.inside in
    let copied = rw (c.as_slice.ensures, take_rest) at c.copy_from_slice.ensures.after in
    let least = rw (c.as_slice.ensures, take_rest, c.min.ensures) at c.min-given.ensures in
    rw (← c.self.view_is) (
      copied_front s.bytes c.copy_from_slice.new.self (drop c.min-given.result c.args.piece.now) s.from c.min-given.result copied (omega (arith, least)),
      λ none some. none_left s.bytes s.from s.piece (length c.args.piece.now) c.min-given.result least c.self.invariant.1 c.requires none,
    )
