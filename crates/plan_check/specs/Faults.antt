-- Faults of a plan, and what goes on where there is none.
use Rattle.std.specs.Prelude.{◌≡◌, ℕ, nat_lt, List, length, Bool, Option, Some, None, Result, Ok, Err, if◌then◌else◌}
use Rattle.cell_core.specs.declared.schema.Numbers.{Numbers}
use Rattle.cell_core.specs.declared.schema.Numbers.TheVariants.{One}
use Rattle.plan_types.specs.declared.plan.Plan.{Plan}
use Rattle.plan_json.specs.declared.words.PlanPart.{PlanPart}
use Rattle.plan_json.specs.declared.words.PlanCause.{PlanCause}
use Rattle.plan_json.specs.declared.words.PlanCause.TheVariants as cause
use Rattle.plan_check.specs.declared.refused.PlanFault.{PlanFault}
use Rattle.plan_check.specs.declared.refused.PlanRefused.{PlanRefused}
use Rattle.plan_check.specs.declared.refused.PlanRefused.TheVariants as refused

abbrev pub fault : PlanPart → PlanCause → Numbers → PlanFault
fault part cause at = record { part = part; cause = cause; at = at }

-- what is found, or the fault
abbrev pub found : {X : Type 0} → PlanFault → Option X → Result X PlanFault
found why (Some x) = Ok x
found why None = Err why

-- the fault where that holds, and else what follows
abbrev pub unless : {X : Type 0} → Bool → PlanFault → Result X PlanFault → Result X PlanFault
unless refused why next = if refused then Err why else next

-- at most so many
abbrev pub at_most : {A X : Type 0} → ℕ → PlanPart → List A → Result X PlanFault → Result X PlanFault
at_most most part xs next = unless (nat_lt most (length xs)) (fault part cause.TooMany (One (length xs))) next

-- a refusal is for the first fault, but for want of memory, which may come in any case
abbrev pub RefusesPlan : Result Plan PlanFault → PlanRefused → Type 0
RefusesPlan outcome (refused.Bad part cause at) = outcome ≡ Err (fault part cause at)
RefusesPlan outcome refused.Memory = Unit {0}
