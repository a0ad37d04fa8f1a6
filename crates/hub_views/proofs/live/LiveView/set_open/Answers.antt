use Rattle.hub_views.proofs.GroupTests.{not_opened}
use Rattle.hub_views.proofs.live.LiveView.set_open.Goals as goal

pub returns-in_err-check_group : goal.returns-in_err-check_group
returns-in_err-check_group g c =
    let a = c.args in
    not_opened a.path.now a.opened a.table.now a.self.now c.from_residual.result c.in_err-check_group.field-0.0 c.from_residual.ensures c.in_err-check_group.ensures
