use Rattle.std.proofs.Common.{◌≡◌, map, take}
use Rattle.view_columns.specs.Headers.{under}
use Rattle.flat_live.specs.Rows.{as_placed}
use Rattle.flat_live.proofs.live.all_placed.Given as goal

abbrev pub invariant-loop-entry : goal.invariant-loop-entry
invariant-loop-entry l = l.copies.items ≡ map (λ e. as_placed (under l.columns l.plan) e.now) (take l.entry-index l.entry-items)
