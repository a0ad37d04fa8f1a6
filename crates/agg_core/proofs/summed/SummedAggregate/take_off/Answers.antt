use Rattle.agg_core.specs.Sums.{counted, counted_in, sum_name}
use Rattle.agg_core.proofs.RunningSums.{reads-counted, sum_without, some_counted, total_without}
use Rattle.agg_core.proofs.summed.SummedAggregate.take_off.Goals as goal

pub take_off-requires-clause-reach : goal.take_off-requires-clause-reach
take_off-requires-clause-reach c =
    let f = c.args.self.now.form in
    sum_without (counted f) (counted_in f) (reads-counted f) (sum_name f) _ _ _ _ _ c.number_in-number.ensures c.requires

pub take_off-requires-clause-some : goal.take_off-requires-clause-some
take_off-requires-clause-some c =
    let f = c.args.self.now.form in
    some_counted (counted f) (counted_in f) (reads-counted f) (sum_name f) _ _ _ _ _ c.number_in-number.ensures c.requires

pub returns-clause-stands : goal.returns-clause-stands
returns-clause-stands c =
    let f = c.args.self.now.form in
    total_without (counted f) (counted_in f) (reads-counted f) (sum_name f) _ _ _ _ _ _ _ c.number_in-number.ensures c.take_off.ensures.sum c.take_off.ensures.count
