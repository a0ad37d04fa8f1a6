-- Plans of flat views.
use Rattle.std.specs.Prelude.{◌≡◌, ◌<◌, true, List, All, length}
use Rattle.cell_core.specs.declared.schema.Column.{Column}
use Rattle.plan_types.specs.Columns.{all_columns}
use Rattle.plan_types.specs.declared.plan.Plan.{Plan}
use Rattle.view_spec.specs.Columns.{is_flat}

-- a plan without groups, whose shown columns are there; it may split
pub record IsFlatPlan (columns : List Column) (plan : Plan) : Type 0 where
  pub flat : is_flat plan ≡ true
  pub within : All (λ i. i < length (all_columns columns plan.expressions)) plan.columns
