use Rattle.std.proofs.Common.{rules, ◌≡◌, None, sym, ap, ◌∙◌, refl, subst}
use Rattle.std.specs.Option.{option_copied}
use Rattle.agg_core.specs.Bags.{repeated}
use Rattle.agg_core.proofs.Walks.{AreTimes, best_from, best_kept, best_replaced, times-counts}
use Rattle.agg_core.proofs.walk.most_frequent.Goals as goal

pub loop-cell-init : goal.loop-cell-init
loop-cell-init c =
    let all = repeated c.args.counts.now.entries in
    let start : c.into_iter-cell-iterator.result ≡ c.args.counts.now.entries = search rules in
    record {
      going_on = ap (λ es. best_from all None (repeated es)) (sym start);
      is_best = refl;
      times = subst (AreTimes all) (sym start) (times-counts c.args.counts.now.entries c.requires.by_cell c.requires.some);
    }

pub loop-cell-preserved-then-most-count : goal.loop-cell-preserved-then-most-count
loop-cell-preserved-then-most-count c =
    let all = repeated c.args.counts.now.entries in
    let i = c.loop-cell.invariant in
    let rest = c.in-Some.ensures.steps in
    let times = subst (AreTimes all) rest i.times in
    record {
      going_on = i.going_on ∙ ap (λ es. best_from all (option_copied c.loop-cell.best) (repeated es)) rest
          ∙ best_replaced all (option_copied c.loop-cell.best) c.loop-cell.most c.in-Some.cell.now c.in-Some.count.now (repeated c.next.new.self) i.is_best times.0.0 c.if-most-count.true;
      is_best = times.0.0;
      times = times.1;
    }

pub loop-cell-preserved : goal.loop-cell-preserved
loop-cell-preserved c =
    let all = repeated c.args.counts.now.entries in
    let i = c.loop-cell.invariant in
    let rest = c.in-Some.ensures.steps in
    let times = subst (AreTimes all) rest i.times in
    record {
      going_on = i.going_on ∙ ap (λ es. best_from all (option_copied c.loop-cell.best) (repeated es)) rest
          ∙ best_kept all (option_copied c.loop-cell.best) c.loop-cell.most c.in-Some.cell.now c.in-Some.count.now (repeated c.next.new.self) i.is_best times.0.0 times.0.1 c.if-most-count.false;
      is_best = i.is_best;
      times = times.1;
    }
