use Rattle.std.proofs.Common.{refl}
use Rattle.view_spec.specs.Entries.{entry}
use Rattle.pivot_live.proofs.Bounds.{walk_bound}
use Rattle.pivot_live.proofs.SettledRows.{noted_after, placed_after}
use Rattle.pivot_live.proofs.laws.walked_steps_are_right.Goals as goal

pub returns : goal.returns
returns c = record {
  rows = λ s changes table told before shown keys h. placed_after s changes table told before shown keys h (entry s) (λ k. refl);
  keys = λ s changes table told before shown keys h. noted_after s changes table told before shown keys h (entry s) (λ k. refl);
  visits = λ s changes table grouped step told before passes reaches first last some. walk_bound s changes table grouped step told before passes reaches first last some;
}
