use Rattle.std.proofs.Common.{◌∙◌}
use Rattle.delta_core.proofs.FoldChecks.{has_by}
use Rattle.delta_core.proofs.checking.has.Goals as goal

pub returns : goal.returns
returns c = c.contains.ensures ∙ has_by c.args.keys.now.keys c.args.key.now
