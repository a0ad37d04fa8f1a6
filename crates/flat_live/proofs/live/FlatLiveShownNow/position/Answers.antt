use Rattle.std.proofs.Common.{◌∙◌}
use Rattle.key_map.proofs.Keyed.{position_of-shown}
use Rattle.view_columns.specs.Headers.{under}
use Rattle.flat_live.specs.Rows.{shown_row}
use Rattle.flat_live.proofs.Shows.{rows_shown}
use Rattle.flat_live.proofs.live.FlatLiveShownNow.position.Goals as goal

pub returns-clause-position : goal.returns-clause-position
returns-clause-position c = c.position.ensures ∙ position_of-shown (shown_row (under c.args.self.now.columns c.args.self.now.plan)) c.args.key.now c.args.self.now.rows

pub returns-clause-rows : goal.returns-clause-rows
returns-clause-rows c = rows_shown (under c.args.self.now.columns c.args.self.now.plan) c.args.self.now.rows c.len-count.ensures.live.differ
