use Rattle.std.proofs.Common.{◌≡◌, get_or, [], ap, ◌∙◌, sym, arith}
use Rattle.view_spec.specs.Members.{members}
use Rattle.view_columns.specs.Headers.{under}
use Rattle.view_columns.specs.declared.headers.SplitColumns.{SplitColumns}
use Rattle.group_walk.proofs.ShownGroups.{each_length, split_at, split_under, splits_end, splits_more}
use Rattle.group_walk.proofs.groups.group_cells.Goals as goal

pub loop-one-preserved : goal.loop-one-preserved
loop-one-preserved c columns path rows paths is each =
    let plan = c.args.plan.now in
    let i = c.loop-one.one-index in
    let one = c.one-item.result in
    let long = each_length columns plan paths c.args.split_columns.now each in
    let found : one ≡ split_under columns plan (get_or paths i []) = split_at columns plan paths c.args.split_columns.now i one each c.loop-one-test.true c.one-item.is in
    let split : one.split ≡ get_or paths i [] = ap (λ (s : SplitColumns). s.split) found in
    let heads : one.columns ≡ under columns plan one.split = ap (λ (s : SplitColumns). s.columns) found ∙ ap (under columns plan) (sym split) in
    splits_more columns plan (members plan rows path) paths i one.split c.loop-one.cells c.put_split.new.cells (omega arith) split (c.in_ok-put_split.ensures columns path rows is heads)
    ∙ c.loop-one.invariant columns path rows paths is each

pub returns : goal.returns
returns c columns path rows paths is each =
    let plan = c.args.plan.now in
    let long = each_length columns plan paths c.args.split_columns.now each in
    splits_end columns plan (members plan rows path) paths c.loop-one.one-index c.loop-one.cells (omega arith) (c.loop-one.invariant columns path rows paths is each)
