use Rattle.std.proofs.Common.{List, Some, cond, ap, ◌∙◌}
use Rattle.delta_core.specs.Rows.{at_key}
use Rattle.view_types.specs.Keys.{same_key}
use Rattle.live_list.specs.Live.{live_key}
use Rattle.flat_live.specs.FlatRows.{FlatRow}
use Rattle.flat_live.proofs.rows.FlatRows.put.Goals as goal

pub returns-in-Ok-clause-told : goal.returns-in-Ok-clause-told
returns-in-Ok-clause-told c = λ k.
    let row : FlatRow = (c.args.place, record { key = c.args.key; value = c.args.value }) in
    c.in-Ok.ensures.told k ∙ ap (λ (rows : List FlatRow). cond (same_key c.args.key k) (Some row) (at_key live_key k rows)) c.self.view_is
