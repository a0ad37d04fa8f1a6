use Rattle.std.proofs.Common.{◌≡◌, ◌-◌, List, ap, drop, map, sym, subst, take, ◌∙◌}
use Rattle.view_types.specs.Rows.{AreShownRows}
use Rattle.view_types.specs.declared.shown.ShownRow.{ShownRow}
use Rattle.view_kept.proofs.PartLaws.{shown_part}
use Rattle.view_columns.specs.Headers.{under}
use Rattle.flat_live.specs.Rows.{shown_row}
use Rattle.flat_live.proofs.Shows.{rows_shown}
use Rattle.flat_live.proofs.live.FlatLive.rows_in.Goals as goal

pub from_listed-requires : goal.from_listed-requires
from_listed-requires c =
    let rows : c.from_vec.result ≡ take (c.args.to - c.args.from) (drop c.args.from (map (shown_row (under c.args.self.now.columns c.args.self.now.plan)) c.args.self.now.rows))
    = c.from_vec.ensures ∙ c.in_ok-rows.ensures ∙ ap (λ cs. take (c.args.to - c.args.from) (drop c.args.from (map (shown_row (under cs c.args.self.now.plan)) c.args.self.now.rows))) c.as_slice.ensures in
    subst (λ (rs : List ShownRow). AreShownRows rs) (sym rows)
    (shown_part (map (shown_row (under c.args.self.now.columns c.args.self.now.plan)) c.args.self.now.rows) (c.args.to - c.args.from) c.args.from (rows_shown (under c.args.self.now.columns c.args.self.now.plan) c.args.self.now.rows c.len-count.ensures.live.differ))
