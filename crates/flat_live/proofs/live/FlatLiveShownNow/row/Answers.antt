use Rattle.std.proofs.Common.{Some, ap, ◌∙◌}
use Rattle.std.specs.Option.{option_map}
use Rattle.view_columns.specs.Headers.{under}
use Rattle.flat_live.specs.Rows.{shown_row}
use Rattle.key_map.proofs.Keyed.{row_at-shown}
use Rattle.flat_live.proofs.live.FlatLiveShownNow.row.Goals as goal

pub returns-in_ok-show_row-in-Some : goal.returns-in_ok-show_row-in-Some
returns-in_ok-show_row-in-Some c =
    ap Some (c.in_ok-show_row-in-Some.ensures ∙ ap (λ cs. shown_row (under cs c.args.self.now.plan) c.in-Some.entry.now) c.as_slice.ensures)
    ∙ ap (option_map (shown_row (under c.args.self.now.columns c.args.self.now.plan))) c.in-Some.ensures
    ∙ row_at-shown (shown_row (under c.args.self.now.columns c.args.self.now.plan)) c.args.key.now c.args.self.now.rows

pub returns-in-None : goal.returns-in-None
returns-in-None c = ap (option_map (shown_row (under c.args.self.now.columns c.args.self.now.plan))) c.in-None.ensures ∙ row_at-shown (shown_row (under c.args.self.now.columns c.args.self.now.plan)) c.args.key.now c.args.self.now.rows
