-- The plan that a written one is against a schema, or its first fault: members in this order, then positions, then words.
use Rattle.std.specs.Prelude.{List, Result, Ok}
use Rattle.plain_data.specs.Results.{and_then}
use Rattle.cell_core.specs.Schemas.{SchemaData}
use Rattle.cell_core.specs.declared.schema.Column.{Column}
use Rattle.plan_types.specs.Columns.{all_columns}
use Rattle.plan_types.specs.declared.plan.Expression.{Expression}
use Rattle.plan_types.specs.declared.plan.Plan.{Plan}
use Rattle.plan_json.specs.Plans.{RawPlanData}
use Rattle.plan_check.specs.Columns.{aggregates_of, groups_of, shown_of, splits_of}
use Rattle.plan_check.specs.Expressions.{expressions_of}
use Rattle.plan_check.specs.Filters.{every_of, filters_of}
use Rattle.plan_check.specs.Sorts.{sorts_of}
use Rattle.plan_check.specs.declared.refused.PlanFault.{PlanFault}

-- the members behind `expressions`, which name the schema's columns and those of the expressions
abbrev pub checked_in : List Column → List Expression → List Column → RawPlanData → Result Plan PlanFault
checked_in schema expressions columns raw =
    and_then (shown_of schema columns raw.columns) (λ shown.
    and_then (groups_of columns raw.group_by) (λ groups.
    and_then (splits_of columns raw.split_by) (λ splits.
    and_then (aggregates_of columns raw.aggregates) (λ aggregates.
    and_then (filters_of columns raw.filters) (λ filters.
    and_then (every_of raw.filter_op) (λ every.
    and_then (sorts_of columns groups aggregates raw.sorts) (λ sorts.
    Ok (record {
      columns = shown;
      group_by = groups;
      split_by = splits;
      aggregates = aggregates;
      filters = record { list = filters; every = every };
      sorts = sorts;
      expressions = expressions;
    }))))))))

abbrev pub checked : SchemaData → RawPlanData → Result Plan PlanFault
checked schema raw =
    and_then (expressions_of schema.columns raw.expressions) (λ expressions.
    checked_in schema.columns expressions (all_columns schema.columns expressions) raw)
