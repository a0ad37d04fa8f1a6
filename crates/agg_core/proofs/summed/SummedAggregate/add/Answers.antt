use Rattle.agg_core.specs.Sums.{counted, counted_in, sum_name}
use Rattle.agg_core.proofs.RunningSums.{reads-counted, sum_with, room_for, total_with}
use Rattle.agg_core.proofs.summed.SummedAggregate.add.Goals as goal

pub add-requires-clause-reach : goal.add-requires-clause-reach
add-requires-clause-reach c =
    let f = c.args.self.now.form in
    sum_with (counted f) (counted_in f) (reads-counted f) (sum_name f) _ _ _ _ _ c.number_in-number.ensures c.requires

pub add-requires-clause-room : goal.add-requires-clause-room
add-requires-clause-room c =
    let f = c.args.self.now.form in
    room_for (counted f) (counted_in f) (reads-counted f) (sum_name f) _ _ _ _ c.requires

pub returns-clause-ok : goal.returns-clause-ok
returns-clause-ok c =
    let f = c.args.self.now.form in
    total_with (counted f) (counted_in f) (reads-counted f) (sum_name f) _ _ _ _ _ _ _ c.number_in-number.ensures c.add.ensures.sum c.add.ensures.count
