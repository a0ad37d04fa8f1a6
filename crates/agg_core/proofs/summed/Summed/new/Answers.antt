use Rattle.agg_core.specs.Sums.{counted, counted_in, sum_name}
use Rattle.agg_core.proofs.RunningSums.{reads-counted, IsTotalOf-nil}
use Rattle.agg_core.proofs.summed.Summed.new.Goals as goal

pub returns-clause-stands : goal.returns-clause-stands
returns-clause-stands c =
    let f = c.args.form in
    IsTotalOf-nil (counted f) (counted_in f) (reads-counted f) (sum_name f) _ _ c.zero.ensures.sum c.zero.ensures.count
