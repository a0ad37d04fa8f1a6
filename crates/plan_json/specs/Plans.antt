-- A plan as it is written, as data: `RawPlan` with the value of each filter as its data.
use Rattle.std.specs.Prelude.{ℕ, List, map, Option, option_map}
use Rattle.cell_core.specs.RawData.{RawData}
use Rattle.cell_core.specs.RawViews.{raw_view}
use Rattle.plan_json.specs.declared.named.NamedText.{NamedText}
use Rattle.plan_json.specs.declared.plan.RawFilter.{RawFilter}
use Rattle.plan_json.specs.declared.plan.RawPlan.{RawPlan}
use Rattle.plan_json.specs.declared.plan.RawSort.{RawSort}

pub record RawFilterData : Type 0 where
  pub name : List ℕ
  pub operator : List ℕ
  pub value : Option RawData

pub record RawPlanData : Type 0 where
  pub columns : Option (List (List ℕ))
  pub group_by : List (List ℕ)
  pub split_by : List (List ℕ)
  pub aggregates : List NamedText
  pub expressions : List NamedText
  pub filters : List RawFilterData
  pub filter_op : Option (List ℕ)
  pub sorts : List RawSort

abbrev pub filter_view : RawFilter → RawFilterData
filter_view f = record { name = f.name; operator = f.operator; value = option_map raw_view f.value }

abbrev pub raw_plan_view : RawPlan → RawPlanData
raw_plan_view plan = record {
  columns = plan.columns;
  group_by = plan.group_by;
  split_by = plan.split_by;
  aggregates = plan.aggregates;
  expressions = plan.expressions;
  filters = map filter_view plan.filter;
  filter_op = plan.filter_op;
  sorts = plan.sort;
}
