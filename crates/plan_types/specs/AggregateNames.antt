-- The names of aggregates.
use Rattle.std.specs.Prelude.{ℕ, List, codes, Option, Some, None, if◌then◌else◌}
use Rattle.std.specs.Str.{bytes_eq}
use Rattle.plan_types.specs.declared.aggregate.AggName.{AggName}
use Rattle.plan_types.specs.declared.aggregate.AggName.TheVariants as aggregate

abbrev pub aggregate_name : AggName → List ℕ
aggregate_name aggregate.Sum = codes "sum"
aggregate_name aggregate.AbsSum = codes "abs sum"
aggregate_name aggregate.SumAbs = codes "sum abs"
aggregate_name aggregate.Count = codes "count"
aggregate_name aggregate.DistinctCount = codes "distinct count"
aggregate_name aggregate.Mean = codes "mean"
aggregate_name aggregate.Avg = codes "avg"
aggregate_name aggregate.Min = codes "min"
aggregate_name aggregate.Max = codes "max"
aggregate_name aggregate.Unique = codes "unique"
aggregate_name aggregate.First = codes "first"
aggregate_name aggregate.Last = codes "last"
aggregate_name aggregate.Dominant = codes "dominant"
aggregate_name aggregate.Median = codes "median"

abbrev pub aggregate_named : List ℕ → Option AggName
aggregate_named s =
    if bytes_eq s (codes "sum") then Some aggregate.Sum else
    (if bytes_eq s (codes "abs sum") then Some aggregate.AbsSum else
    (if bytes_eq s (codes "sum abs") then Some aggregate.SumAbs else
    (if bytes_eq s (codes "count") then Some aggregate.Count else
    (if bytes_eq s (codes "distinct count") then Some aggregate.DistinctCount else
    (if bytes_eq s (codes "mean") then Some aggregate.Mean else
    (if bytes_eq s (codes "avg") then Some aggregate.Avg else
    (if bytes_eq s (codes "min") then Some aggregate.Min else
    (if bytes_eq s (codes "max") then Some aggregate.Max else
    (if bytes_eq s (codes "unique") then Some aggregate.Unique else
    (if bytes_eq s (codes "first") then Some aggregate.First else
    (if bytes_eq s (codes "last") then Some aggregate.Last else
    (if bytes_eq s (codes "dominant") then Some aggregate.Dominant else
    (if bytes_eq s (codes "median") then Some aggregate.Median else None)))))))))))))
