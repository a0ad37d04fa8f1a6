use Rattle.hub_views.proofs.GroupNames.{no_name}
use Rattle.hub_views.proofs.groups.column_name.Goals as goal

pub returns-in-None : goal.returns-in-None
returns-in-None c = no_name c.args.schema.now.columns c.columns-columns.result.now c.args.plan.now c.args.i c.columns-columns.ensures c.if-i-columns.false (c.in-None.ensures).value
