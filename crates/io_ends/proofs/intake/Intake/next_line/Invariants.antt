use Rattle.std.proofs.Common.{◌≡◌, ◌+◌, ◌-◌, ◌^◌, ◌≤◌, true, false}
use Rattle.io_ends.specs.Lines.{has_end}
use Rattle.io_ends.specs.Intake.{held}
use Rattle.io_ends.proofs.Midway.{IsMidway}
use Rattle.io_ends.proofs.intake.Intake.next_line.Given as goal

abbrev pub invariant-parts : goal.invariant-parts
invariant-parts g l = record {
  midway : IsMidway l.longest (g.S.Source.left l.initial.source) (g.S.Source.left l.source) (held l.initial.self) (held l.self) l.initial.self.given l.self.given l.front;
  open_yet : l.self.ended ≡ false;
  within : l.self.given ≤ 2 ^ 30;
  count : g.S.Source.faults l.source ≡ g.S.Source.faults l.initial.source;
  idle : has_end (held l.initial.self) ≡ true → (l.source ≡ l.initial.source) × (held l.self ≡ held l.initial.self);
}

abbrev pub decreases-parts : goal.decreases-parts
decreases-parts g l = 2 ^ 30 + 1 - l.self.given
