-- The columns of a view, and what it shows of each.
use Rattle.std.specs.Prelude.{ℕ, List, [], Bool, slice_index_or, if◌then◌else◌}
use Rattle.plain_data.specs.Lists.{is_empty}
use Rattle.cell_core.specs.declared.cell.CellType.TheVariants.{Integer}
use Rattle.cell_core.specs.declared.schema.Column.{Column}
use Rattle.plan_types.specs.Columns.{all_columns}
use Rattle.plan_types.specs.declared.aggregate.AggName.{AggName}
use Rattle.plan_types.specs.declared.plan.Plan.{Plan}
use Rattle.agg_core.specs.Types.{aggregate_for, result_type}
use Rattle.agg_core.specs.declared.types.ResultType.{ResultType}
use Rattle.agg_core.specs.declared.types.ResultType.TheVariants as result
use Rattle.view_types.specs.Types.{shown_type}
use Rattle.view_types.specs.declared.shown.ShownType.{ShownType}
use Rattle.view_types.specs.declared.shown.ShownType.TheVariants.{Fraction}

abbrev pub is_flat : Plan → Bool
is_flat plan = is_empty plan.group_by

abbrev pub no_column : Column
no_column = record { name = []; kind = Integer }

-- the column of that number
abbrev pub column_at : List Column → Plan → ℕ → Column
column_at columns plan i = slice_index_or (all_columns columns plan.expressions) i no_column

-- the aggregate that the plan names for a column, and else that of its type
abbrev pub aggregate_at : List Column → Plan → ℕ → AggName
aggregate_at columns plan i = aggregate_for plan.aggregates i (column_at columns plan i).kind

abbrev pub shown_result : ResultType → ShownType
shown_result (result.Column kind) = shown_type kind
shown_result result.Fraction = Fraction

-- the type of what a column shows
abbrev pub shown_kind : List Column → Plan → ℕ → ShownType
shown_kind columns plan i =
    if is_flat plan then shown_type (column_at columns plan i).kind
    else shown_result (result_type (aggregate_at columns plan i) (column_at columns plan i).kind)
