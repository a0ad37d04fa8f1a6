use Rattle.std.proofs.Common.{◌≡◌, map, take}
use Rattle.view_columns.specs.Headers.{under}
use Rattle.flat_live.specs.Rows.{shown_row}
use Rattle.flat_live.proofs.live.rows_between.Given as goal

abbrev pub invariant-loop-entry : goal.invariant-loop-entry
invariant-loop-entry l = l.copies.items ≡ map (λ e. shown_row (under l.columns l.plan) e.now) (take l.entry-index l.entry-items)
