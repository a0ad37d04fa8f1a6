-- The plan that a request asks for.
use Rattle.std.specs.Prelude.{Option, Some, None, Result, Ok, Err}
use Rattle.cell_core.specs.RawData.{RawData}
use Rattle.cell_core.specs.Schemas.{SchemaData}
use Rattle.frame_types.specs.Refusals.{bad_plan, plan_form}
use Rattle.frame_types.specs.declared.reply.Refusal.{Refusal}
use Rattle.plan_types.specs.declared.plan.Plan.{Plan}
use Rattle.plan_json.specs.Plans.{RawPlanData}
use Rattle.plan_json.specs.Reading.{plan_of}
use Rattle.plan_check.specs.Plans.{checked}
use Rattle.plan_check.specs.declared.refused.PlanFault.{PlanFault}

abbrev pub plan_checked : Result Plan PlanFault → Result Plan Refusal
plan_checked (Ok plan) = Ok plan
plan_checked (Err why) = Err (bad_plan why.part why.cause why.at)

abbrev pub plan_read : SchemaData → Option RawPlanData → Result Plan Refusal
plan_read schema None = Err plan_form
plan_read schema (Some raw) = plan_checked (checked schema raw)

-- the plan that a value stands for on a table of that schema, or why there is none
abbrev pub plan_asked : SchemaData → RawData → Result Plan Refusal
plan_asked schema plan = plan_read schema (plan_of plan)
