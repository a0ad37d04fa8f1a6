use Rattle.std.proofs.Common.{map}
use Rattle.agg_core.specs.Aggregates.{numbers, number_in, size_of}
use Rattle.agg_core.specs.Numbers.{size_in}
use Rattle.agg_core.proofs.RunningSums.{reads-numbers, reads-sizes, sum_small}
use Rattle.agg_core.proofs.laws.sums_are_small.Goals as goal

pub returns-clause-sums : goal.returns-clause-sums
returns-clause-sums c = sum_small numbers number_in reads-numbers

pub returns-clause-sizes : goal.returns-clause-sizes
returns-clause-sizes c = sum_small (λ cells. map size_of (numbers cells)) size_in reads-sizes
