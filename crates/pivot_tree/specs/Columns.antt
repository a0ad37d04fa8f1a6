-- The columns that a plan uses, and the aggregates that are kept of them.
use Rattle.std.specs.Prelude.{◌≡◌, ℕ, nat_eq, Bool, true, List, ◌++◌, map, All, Option, Some}
use Rattle.std.specs.List.{list_any}
use Rattle.std.specs.Map.{lookup}
use Rattle.cell_core.specs.declared.schema.Column.{Column}
use Rattle.plan_types.specs.declared.aggregate.AggName.{AggName}
use Rattle.plan_types.specs.declared.plan.Named.{Named}
use Rattle.plan_types.specs.declared.plan.Plan.{Plan}
use Rattle.plan_types.specs.declared.plan.Sort.{Sort}
use Rattle.view_spec.specs.Columns.{aggregate_at}

-- the columns that the plan shows, and those that it sorts by
abbrev pub used_columns : Plan → List ℕ
used_columns plan = plan.columns ++ map (λ (s : Sort). s.column) plan.sorts

abbrev pub is_among : List ℕ → ℕ → Bool
is_among numbers i = list_any (nat_eq i) numbers

-- whether the plan shows the column or sorts by it
abbrev pub is_used : Plan → ℕ → Bool
is_used plan i = is_among (used_columns plan) i

-- the aggregate that is named for a column
abbrev pub aggregate_in : List Named → ℕ → Option AggName
aggregate_in named column = lookup (nat_eq column) (map (λ (n : Named). (n.column, n.aggregate)) named)

-- each of some columns has its aggregate, and no other column has one
pub record HaveAggregates (columns : List Column) (plan : Plan) (numbers : List ℕ) (used : List Named) : Type 0 where
  pub has : (i : ℕ) → is_among numbers i ≡ true → aggregate_in used i ≡ Some (aggregate_at columns plan i)
  pub only : All (λ (u : Named). (is_among numbers u.column ≡ true) × (u.aggregate ≡ aggregate_at columns plan u.column)) used

-- each used column has its aggregate, and no other column has one
abbrev pub Uses : List Column → Plan → List Named → Type 0
Uses columns plan used = HaveAggregates columns plan (used_columns plan) used
