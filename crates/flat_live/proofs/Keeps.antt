-- What is kept of a row of the table, and that each place ends with its key.
use Rattle.std.proofs.Common.{◌≡◌, false, List, Some, None, sym, ◌∙◌, ap}
use Rattle.std.specs.Option.{option_map}
use Rattle.cell_core.specs.declared.cell.Cell.{Cell}
use Rattle.row_batch.specs.Batches.{pair_of}
use Rattle.plan_types.specs.declared.plan.Plan.{Plan}
use Rattle.view_spec.specs.Entries.{where_it}
use Rattle.view_spec.specs.Filters.{keeps}
use Rattle.view_spec.specs.Kept.{full_row}
use Rattle.flat_live.specs.Rows.{live_at, live_row}

pub live_dropped : (plan : Plan) (key : Cell) (row full : List Cell) → full ≡ full_row plan row → keeps plan.filters full ≡ false
    → live_at plan (Some (pair_of key row)) ≡ None
live_dropped plan key row full is kept =
    ap (λ b. option_map (live_row plan) (where_it b (pair_of key (full_row plan row)))) (ap (keeps plan.filters) (sym is) ∙ kept)
