use Rattle.io_ends.proofs.Cuts.{cut_at}
use Rattle.io_ends.proofs.intake.Intake.take_part.Goals as goal

pub returns-in_ok-add-in-Some-clause-part : goal.returns-in_ok-add-in-Some-clause-part
returns-in_ok-add-in-Some-clause-part c =
    let found = rw c.deref.ensures.value at c.in-Some.ensures in
    let grows = rw c.deref.ensures.value at c.in_ok-add-in-Some.ensures in
    record {
      part = _;
      no_end = found.2;
      grows = grows;
      cut = cut_at c.args.self.now.chunk.items c.args.self.now.from c.args.self.now.to c.in-Some.at found.0 found.1;
    }
