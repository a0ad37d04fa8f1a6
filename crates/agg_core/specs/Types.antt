-- Which columns an aggregate takes, and the type of its values.
use Rattle.std.specs.Prelude.{ℕ, nat_eq, List, map, Bool, true, false, IsTrue, unwrap_or}
use Rattle.std.specs.Map.{lookup}
use Rattle.cell_core.specs.Limits.{is_integer}
use Rattle.cell_core.specs.declared.cell.Cell.{Cell}
use Rattle.cell_core.specs.declared.cell.Cell.TheVariants as cell
use Rattle.cell_core.specs.declared.cell.CellType.{CellType}
use Rattle.cell_core.specs.declared.cell.CellType.TheVariants as kinds
use Rattle.plan_types.specs.declared.aggregate.AggName.{AggName}
use Rattle.plan_types.specs.declared.aggregate.AggName.TheVariants as name
use Rattle.plan_types.specs.declared.plan.Named.{Named}
use Rattle.agg_core.specs.declared.types.ResultType.{ResultType}
use Rattle.agg_core.specs.declared.types.ResultType.TheVariants as result

-- whether a column has whole numbers
abbrev pub is_numeric : CellType → Bool
is_numeric kinds.Integer = true
is_numeric kinds.Boolean = false
is_numeric kinds.Date = false
is_numeric kinds.Moment = false
is_numeric kinds.Words = false

-- whether an aggregate takes columns of that type
abbrev pub takes : AggName → CellType → Bool
takes name.Sum kind = is_numeric kind
takes name.AbsSum kind = is_numeric kind
takes name.SumAbs kind = is_numeric kind
takes name.Count kind = true
takes name.DistinctCount kind = true
takes name.Mean kind = is_numeric kind
takes name.Avg kind = is_numeric kind
takes name.Min kind = true
takes name.Max kind = true
takes name.Unique kind = true
takes name.First kind = true
takes name.Last kind = true
takes name.Dominant kind = true
takes name.Median kind = true

-- the type of an aggregate's values over a column of that type
abbrev pub result_type : AggName → CellType → ResultType
result_type name.Sum kind = result.Column kinds.Integer
result_type name.AbsSum kind = result.Column kinds.Integer
result_type name.SumAbs kind = result.Column kinds.Integer
result_type name.Count kind = result.Column kinds.Integer
result_type name.DistinctCount kind = result.Column kinds.Integer
result_type name.Mean kind = result.Fraction
result_type name.Avg kind = result.Fraction
result_type name.Min kind = result.Column kind
result_type name.Max kind = result.Column kind
result_type name.Unique kind = result.Column kind
result_type name.First kind = result.Column kind
result_type name.Last kind = result.Column kind
result_type name.Dominant kind = result.Column kind
result_type name.Median kind = result.Column kind

-- the aggregate of a column that none is named for
abbrev pub default_aggregate : CellType → AggName
default_aggregate kinds.Integer = name.Sum
default_aggregate kinds.Boolean = name.Count
default_aggregate kinds.Date = name.Count
default_aggregate kinds.Moment = name.Count
default_aggregate kinds.Words = name.Count

-- the aggregate that is named for column i, and else that of its type
abbrev pub aggregate_for : List Named → ℕ → CellType → AggName
aggregate_for aggregates i kind = unwrap_or (lookup (nat_eq i) (map (λ (n : Named). (n.column, n.aggregate)) aggregates)) (default_aggregate kind)

-- null, or a cell of a type that the aggregate takes, and a whole number in range
abbrev pub IsTaken : AggName → Cell → Type 0
IsTaken aggregate cell.Null = Unit {0}
IsTaken aggregate (cell.Bool b) = IsTrue (takes aggregate kinds.Boolean)
IsTaken aggregate (cell.Int n) = IsTrue (takes aggregate kinds.Integer) × IsTrue (is_integer n)
IsTaken aggregate (cell.Date d) = IsTrue (takes aggregate kinds.Date)
IsTaken aggregate (cell.Moment t) = IsTrue (takes aggregate kinds.Moment)
IsTaken aggregate (cell.Words s) = IsTrue (takes aggregate kinds.Words)
