use Rattle.std.proofs.Common.{◌∙◌, arith}
use Rattle.std.proofs.lemmas.Result.{err_from_is_err_and}
use Rattle.io_ends.specs.Intake.{held}
use Rattle.io_ends.proofs.Midway.{grown, comes, whole, last, fails, never}
use Rattle.io_ends.proofs.intake.Intake.next_line.Goals as goal

pub returns-then-branch-clause-line : goal.returns-then-branch-clause-line
returns-then-branch-clause-line g c =
    let part = rw c.if-branch.true at c.in_ok-take_part.ensures.part in
    let step = c.in_ok-take_part.ensures in
    whole c.parts.invariant.midway.2 part c.whole.result c.take_part.new.self.given c.take_part.new.self.ended c.whole.ensures step.given (step.ended ∙ c.parts.invariant.open_yet)

pub returns-in_err-refill-clause-fault : goal.returns-in_err-refill-clause-fault
returns-in_err-refill-clause-fault g c =
    let e = err_from_is_err_and c.from_residual-in_err-refill.result c.from_residual-in_err-refill.ensures.1 in
    let part = rw c.if-branch.false at c.in_ok-take_part.ensures.part in
    let more = rw c.in_ok-take_part.ensures.given at c.in_err-refill.ensures.came in
    rw e.1 (fails (grown c.parts.invariant.midway.2 part) e.0 _ _ more.0 more.1 more.2 c.parts.invariant.within more.3.1)

pub returns-then-not-branch-clause-line : goal.returns-then-not-branch-clause-line
returns-then-not-branch-clause-line g c =
    let part = rw c.if-branch.false at c.in_ok-take_part.ensures.part in
    let more = rw c.in_ok-take_part.ensures.given at c.in_ok-refill.ensures.came in
    let none = rw c.if-not-branch.true at c.in_ok-refill.ensures.more in
    let m = comes (grown c.parts.invariant.midway.2 part) _ _ _ more.0 more.1 more.2 more.3.0 in
    last m c.last.result c.refill.new.self.ended c.last.ensures none.0 none.1

pub parts-preserved : goal.parts-preserved
parts-preserved g c =
    let part = rw c.if-branch.false at c.in_ok-take_part.ensures.part in
    let more = rw c.in_ok-take_part.ensures.given at c.in_ok-refill.ensures.came in
    let some = rw c.if-not-branch.false at c.in_ok-refill.ensures.more in
    record {
      midway = (_, _, comes (grown c.parts.invariant.midway.2 part) _ _ _ more.0 more.1 more.2 more.3.0);
      open_yet = some.1;
      within = c.in_ok-refill.ensures.within;
      count = c.in_ok-refill.ensures.count.rose ∙ c.parts.invariant.count;
      idle = λ h. never (held c.args.self.now) (held c.parts.self) part.part h (c.parts.invariant.idle h).1 part.cut.0 part.no_end;
    }
