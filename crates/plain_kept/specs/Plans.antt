-- Plans of views.
use Rattle.std.specs.Prelude.{◌⊎◌, List}
use Rattle.cell_core.specs.declared.schema.Column.{Column}
use Rattle.plan_types.specs.declared.plan.Plan.{Plan}
use Rattle.flat_show.specs.Plans.{IsFlatPlan}
use Rattle.group_show.specs.Plans.{IsGroupedPlan}

-- a plan, with or without groups, that fits a schema's columns
abbrev pub IsViewPlan : List Column → Plan → Type 0
IsViewPlan columns plan = IsFlatPlan columns plan ⊎ IsGroupedPlan columns plan
