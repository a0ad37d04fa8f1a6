-- Plans of views with groups.
use Rattle.std.specs.Prelude.{◌≡◌, ◌<◌, true, false, List, All, length}
use Rattle.cell_core.specs.declared.schema.Column.{Column}
use Rattle.expr_spec.specs.TreeViews.{tree_view}
use Rattle.expr_spec.specs.Typing.{IsCheckedTree}
use Rattle.plan_types.specs.declared.plan.Plan.{Plan}
use Rattle.agg_core.specs.Types.{takes}
use Rattle.plan_types.specs.Columns.{all_columns}
use Rattle.view_spec.specs.Columns.{aggregate_at, column_at, is_flat}
use Rattle.pivot_tree.specs.Columns.{used_columns}

-- a plan with groups, whose shown columns are there, whose expressions are checked trees of their types, and whose
-- aggregates take the types of the columns that it shows or sorts by
pub record IsGroupedPlan (columns : List Column) (plan : Plan) : Type 0 where
  pub grouped : is_flat plan ≡ false
  pub within : All (λ i. i < length (all_columns columns plan.expressions)) plan.columns
  pub trees : All (λ e. IsCheckedTree columns (tree_view e.tree) e.kind) plan.expressions
  pub taken : All (λ i. takes (aggregate_at columns plan i) (column_at columns plan i).kind ≡ true) (used_columns plan)
