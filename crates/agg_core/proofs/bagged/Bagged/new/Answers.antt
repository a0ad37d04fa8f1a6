use Rattle.agg_core.specs.Choices.{choice_name}
use Rattle.agg_core.proofs.Ascending.{IsBagOf-nil}
use Rattle.agg_core.proofs.bagged.Bagged.new.Goals as goal

pub returns-clause-stands : goal.returns-clause-stands
returns-clause-stands c = IsBagOf-nil (choice_name c.args.choice) _ c.new.ensures
