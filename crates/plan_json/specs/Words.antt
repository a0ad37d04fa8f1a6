-- The words of a refusal of a plan.
use Rattle.std.specs.Prelude.{ℕ, List, codes}
use Rattle.plan_json.specs.declared.words.PlanPart.{PlanPart}
use Rattle.plan_json.specs.declared.words.PlanPart.TheVariants as part
use Rattle.plan_json.specs.declared.words.PlanCause.{PlanCause}
use Rattle.plan_json.specs.declared.words.PlanCause.TheVariants as cause

abbrev pub part_name : PlanPart → List ℕ
part_name part.Expressions = codes "expressions"
part_name part.Columns = codes "columns"
part_name part.GroupBy = codes "group_by"
part_name part.SplitBy = codes "split_by"
part_name part.Aggregates = codes "aggregates"
part_name part.Filter = codes "filter"
part_name part.FilterOp = codes "filter_op"
part_name part.Sort = codes "sort"

abbrev pub plan_word : PlanCause → List ℕ
plan_word cause.TooMany = codes "too many"
plan_word cause.Name = codes "name"
plan_word cause.Long = codes "long"
plan_word cause.Number = codes "number"
plan_word cause.Nesting = codes "nesting"
plan_word cause.Syntax = codes "syntax"
plan_word cause.Unknown = codes "unknown"
plan_word cause.BadType = codes "type"
plan_word cause.Unit = codes "unit"
plan_word cause.Twice = codes "twice"
plan_word cause.Aggregate = codes "aggregate"
plan_word cause.Operator = codes "operator"
plan_word cause.Value = codes "value"
plan_word cause.Direction = codes "direction"
