use Rattle.std.proofs.Common.{◌≡◌, ◌+◌, ◌*◌, take, length, ap, ◌∙◌, subst, arith}
use Rattle.std.proofs.lemmas.List.{take_all}
use Rattle.plain_data.specs.Sorting.{sorted_by}
use Rattle.view_spec.specs.Kept.{by_key}
use Rattle.pivot_tree.specs.Trees.{IsTreeOf}
use Rattle.pivot_tree.proofs.Building.{can_add_next, sorted_more}
use Rattle.pivot_tree.proofs.build.tree_of.Goals as goal

pub add_row-requires : goal.add_row-requires
add_row-requires g c =
    let columns = c.args.columns.now in
    let plan = c.args.plan.now in
    let ps = c.args.pairs.now in
    let i = c.loop-pair.pair-index in
    (columns, plan, sorted_by by_key (take i ps), c.loop-pair.invariant.tree, can_add_next columns plan ps i c.pair-item.result c.loop-pair-test.true c.pair-item.is c.requires)

pub loop-pair-preserved : goal.loop-pair-preserved
loop-pair-preserved g c =
    let columns = c.args.columns.now in
    let plan = c.args.plan.now in
    let ps = c.args.pairs.now in
    let i = c.loop-pair.pair-index in
    let p = c.pair-item.result in
    record {
      steps =
          let before = c.loop-pair.invariant.steps in
          let more = c.in_ok-add_row.ensures.steps columns plan (sorted_by by_key (take i ps)) c.loop-pair.invariant.tree in
          grind arith;
      tree =
          subst (λ rs. IsTreeOf columns plan c.add_row.new.self rs) (sorted_more ps i p c.loop-pair-test.true c.pair-item.is)
          (c.in_ok-add_row.ensures.stands columns plan (sorted_by by_key (take i ps)) c.loop-pair.invariant.tree
          (can_add_next columns plan ps i p c.loop-pair-test.true c.pair-item.is c.requires));
    }

pub returns-clause-tree : goal.returns-clause-tree
returns-clause-tree g c =
    let ps = c.args.pairs.now in
    subst (λ rs. IsTreeOf c.args.columns.now c.args.plan.now c.loop-pair.tree (sorted_by by_key rs)) (take_all c.loop-pair.pair-index ps c.loop-pair-test.false) c.loop-pair.invariant.tree

pub returns-clause-steps : goal.returns-clause-steps
returns-clause-steps g c =
    let steps = c.loop-pair.invariant.steps in
    let end : c.loop-pair.pair-index ≡ length c.args.pairs.now = let past = c.loop-pair-test.false in let within = c.loop-pair.auto.pair-index-end in omega arith in
    steps ∙ ap (λ n. c.args.steps.now + n * (length c.args.plan.now.group_by + 1)) end
