use Rattle.std.proofs.Common.{◌++◌, map, take}
use Rattle.plan_types.specs.declared.plan.Sort.{Sort}
use Rattle.pivot_tree.specs.Columns.{HaveAggregates}
use Rattle.pivot_tree.proofs.used.used_columns.Given as goal

abbrev pub invariant-loop-column : goal.invariant-loop-column
invariant-loop-column l = HaveAggregates l.columns l.plan (take l.column-index l.plan.columns) l.used.items

abbrev pub invariant-loop-sort : goal.invariant-loop-sort
invariant-loop-sort l = HaveAggregates l.columns l.plan (l.plan.columns ++ map (λ (s : Sort). s.column) (take l.sort-index l.plan.sorts)) l.used.items
