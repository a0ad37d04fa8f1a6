use Rattle.std.proofs.Common.{◌++◌, map, take, subst}
use Rattle.plan_types.specs.declared.plan.Sort.{Sort}
use Rattle.pivot_tree.specs.Columns.{HaveAggregates}
use Rattle.pivot_tree.proofs.UsedSteps.{next_number, next_sort}
use Rattle.pivot_tree.proofs.used.used_columns.Goals as goal

pub loop-column-preserved : goal.loop-column-preserved
loop-column-preserved c =
    let numbers = c.args.plan.now.columns in
    let i = c.loop-column.column-index in
    subst (λ ns. HaveAggregates c.args.columns.now c.args.plan.now ns c.use_column.new.used.items)
    (next_number c.as_slice-column-items.result.now numbers i c.as_slice-column-items.ensures c.loop-column-test.true)
    (c.in_ok-use_column.ensures (take i numbers) c.loop-column.invariant)

pub loop-sort-preserved : goal.loop-sort-preserved
loop-sort-preserved c =
    let numbers = c.args.plan.now.columns in
    let sorts = c.args.plan.now.sorts in
    let i = c.loop-sort.sort-index in
    subst (λ ns. HaveAggregates c.args.columns.now c.args.plan.now ns c.use_column-in-loop-sort.new.used.items)
    (next_sort numbers c.as_slice-sort-items.result.now sorts i _ c.as_slice-sort-items.ensures c.loop-sort-test.true)
    (c.in_ok-use_column-2.ensures (numbers ++ map (λ (s : Sort). s.column) (take i sorts)) c.loop-sort.invariant)
