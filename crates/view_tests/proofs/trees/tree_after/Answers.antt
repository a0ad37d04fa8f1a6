use Rattle.std.proofs.Common.{◌≡◌, ◌+◌, ◌*◌, length, ap, ◌∙◌, arith}
use Rattle.view_tests.proofs.trees.tree_after.Goals as goal

pub act-requires : goal.act-requires
act-requires g c = (c.args.columns.now, c.args.plan.now, c.loop-one.invariant.stands)

pub loop-one-preserved : goal.loop-one-preserved
loop-one-preserved g c =
    let is = c.loop-one.invariant.stands in
    let columns = c.args.columns.now in
    let plan = c.args.plan.now in
    record {
      stands = c.in_ok-act.ensures.stands columns plan is;
      steps =
          let before = c.loop-one.invariant.steps in
          let more = c.in_ok-act.ensures.steps columns plan is in
          grind arith;
    }

pub returns : goal.returns
returns g c =
    let end : c.loop-one.one-index ≡ length c.args.moves.now = let past = c.loop-one-test.false in let within = c.loop-one.auto.one-index-end in omega arith in
    c.loop-one.invariant.steps ∙ ap (λ n. c.args.steps.now + n * (length c.args.plan.now.group_by + 1)) end
