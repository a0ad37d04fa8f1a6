use Rattle.std.proofs.Common.{◌≡◌, List, ap, map, sym, subst, ◌∙◌}
use Rattle.view_types.specs.Rows.{AreShownRows}
use Rattle.view_spec.specs.declared.placed.PlacedRow.{PlacedRow}
use Rattle.view_columns.specs.Headers.{under}
use Rattle.flat_live.specs.Rows.{as_placed}
use Rattle.flat_live.proofs.Shows.{placed_shown}
use Rattle.flat_live.proofs.live.FlatLive.placed_rows.Goals as goal

pub from_listed-requires : goal.from_listed-requires
from_listed-requires c =
    let rows : c.from_vec.result ≡ map (as_placed (under c.args.self.now.columns c.args.self.now.plan)) c.args.self.now.rows
    = c.from_vec.ensures ∙ c.in_ok-rows.ensures ∙ ap (λ cs. map (as_placed (under cs c.args.self.now.plan)) c.args.self.now.rows) c.as_slice.ensures in
    subst (λ (rs : List PlacedRow). AreShownRows (map (λ (p : PlacedRow). p.row) rs)) (sym rows)
    (placed_shown (under c.args.self.now.columns c.args.self.now.plan) c.args.self.now.rows c.len-count.ensures.live.differ)
