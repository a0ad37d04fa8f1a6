use Rattle.std.proofs.lemmas.Result.{on_ok_weaker}
use Rattle.agg_core.specs.Choices.{choice_name}
use Rattle.agg_core.proofs.Ascending.{IsBagOf-with_pair, bag_has_room}
use Rattle.agg_core.proofs.bagged.BaggedAggregate.add.Goals as goal

pub add-requires : goal.add-requires
add-requires c = bag_has_room (choice_name c.args.self.now.choice) _ _ _ c.requires

pub returns-clause-ok : goal.returns-clause-ok
returns-clause-ok c = on_ok_weaker c.add.result (IsBagOf-with_pair (choice_name c.args.self.now.choice) _ _ _ _) c.add.ensures.ok
