use Rattle.io_ends.proofs.Cuts.{end_from_memchr}
use Rattle.io_ends.proofs.intake.end_of_line.Goals as goal

pub returns : goal.returns
returns c = end_from_memchr c.args.bytes.now c.memchr.result c.memchr.ensures
