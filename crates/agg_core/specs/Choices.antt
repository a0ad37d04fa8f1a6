-- What is read off the cells that aren't null.
use Rattle.plan_types.specs.declared.aggregate.AggName.{AggName}
use Rattle.plan_types.specs.declared.aggregate.AggName.TheVariants as name
use Rattle.agg_core.specs.declared.bagged.Choice.{Choice}
use Rattle.agg_core.specs.declared.bagged.Choice.TheVariants as choice

abbrev pub choice_name : Choice → AggName
choice_name choice.DistinctCount = name.DistinctCount
choice_name choice.Min = name.Min
choice_name choice.Max = name.Max
choice_name choice.Unique = name.Unique
choice_name choice.Dominant = name.Dominant
choice_name choice.Median = name.Median
