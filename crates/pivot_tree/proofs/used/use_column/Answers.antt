use Rattle.std.proofs.Common.{sym, ap, ◌∙◌}
use Rattle.pivot_tree.specs.Columns.{aggregate_in}
use Rattle.pivot_tree.proofs.UsedSteps.{HaveAggregates-put, HaveAggregates-kept}
use Rattle.pivot_tree.proofs.used.use_column.Goals as goal

pub returns-then-is_some : goal.returns-then-is_some
returns-then-is_some c numbers is =
    HaveAggregates-kept c.args.columns.now c.args.plan.now numbers c.args.column c.args.used.now.items is c.named_aggregate.result
    (c.named_aggregate.ensures ∙ ap (λ us. aggregate_in us c.args.column) c.as_slice.ensures.value) (sym c.is_some.ensures ∙ c.if-is_some.true)

pub returns : goal.returns
returns c numbers is =
    HaveAggregates-put c.args.columns.now c.args.plan.now numbers c.args.column c.args.used.now.items is c.named_aggregate.result
    (c.named_aggregate.ensures ∙ ap (λ us. aggregate_in us c.args.column) c.as_slice.ensures.value) (sym c.is_some.ensures ∙ c.if-is_some.false)
    c.aggregate_of-aggregate.result c.aggregate_of-aggregate.ensures _ c.in_ok-push.ensures.items
