use Rattle.agg_core.specs.Choices.{choice_name}
use Rattle.agg_core.proofs.Ascending.{IsBagOf-without_key}
use Rattle.agg_core.proofs.bagged.BaggedAggregate.take_off.Goals as goal

pub returns-clause-stands : goal.returns-clause-stands
returns-clause-stands c = IsBagOf-without_key (choice_name c.args.self.now.choice) _ _ _ _ c.take_off.ensures
