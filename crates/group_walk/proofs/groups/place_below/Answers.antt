use Rattle.std.proofs.Common.{◌∙◌, ap}
use Rattle.view_spec.specs.Members.{members}
use Rattle.view_spec.specs.Places.{rows_value}
use Rattle.place_order.specs.Places.{rank}
use Rattle.place_order.specs.declared.rank.Rank.TheVariants.{Asc}
use Rattle.group_walk.proofs.ShownGroups.{ranks_end, ranks_more, uses_sorted}
use Rattle.group_walk.proofs.groups.place_below.Goals as goal

pub loop-sort-preserved : goal.loop-sort-preserved
loop-sort-preserved c columns path rows is =
    let plan = c.args.plan.now in
    let items = c.as_slice-sort-items.result.now in
    let i = c.loop-sort.sort-index in
    let value = c.in_ok-value.ensures columns plan path rows is (uses_sorted plan items i _ c.as_slice-sort-items.ensures c.loop-sort-test.true) in
    ranks_more (rows_value columns plan (members plan rows path)) items i _ c.args.above.now c.loop-sort.place c.push.new.self c.in_ok-rank_of.field-0 c.loop-sort-test.true
    (c.loop-sort.invariant columns path rows is) (c.in_ok-rank_of.ensures ∙ ap (rank _) value) c.in_ok-push.ensures.ok

pub returns : goal.returns
returns c columns path rows is =
    ranks_end columns c.args.plan.now rows path c.as_slice-sort-items.result.now c.loop-sort.sort-index c.args.above.now c.loop-sort.place c.push-2.new.self _ c.args.last.now
    c.as_slice-sort-items.ensures c.loop-sort-test.false (c.loop-sort.invariant columns path rows is) (ap Asc c.in_ok-value-2.ensures) c.in_ok-push-2.ensures.ok
