use Rattle.std.proofs.Common.{◌≡◌, ◌<◌, pos, to_z, of_z, FitsSigned, subst, arith}
use Rattle.std.proofs.lemmas.Int.{to_z-of_z, ints}
use Rattle.std.specs.Int.{w128}
use Rattle.value_core.specs.Reduced.{IsReduced}
use Rattle.agg_core.proofs.Fractions.{mean-none, mean-some}
use Rattle.agg_core.proofs.total.mean.Goals as goal

pub returns-then-total-eq0 : goal.returns-then-total-eq0
returns-then-total-eq0 c ns sum_is count_is = mean-none ns _ c.if-total-eq0.true count_is

pub returns : goal.returns
returns c ns sum_is count_is =
    let total = c.args.total.now in
    let mean = c.reduced-mean.result in
    let some : 0 < total.count = omega arith in
    let within = total.sum_in_reach in
    let few = total.few in
    let fits : FitsSigned w128 total.sum = omega (arith, ints) in
    let is_count : to_z w128 total.count ≡ pos total.count = omega (arith, ints) in
    let by_count = subst (λ z. IsReduced (to_z w128 (of_z w128 total.sum)) z mean.n mean.d) is_count c.reduced-mean.ensures in
    let reduced = subst (λ z. IsReduced z (pos total.count) mean.n mean.d) (to_z-of_z w128 total.sum fits) by_count in
    mean-some ns total.sum _ some few within sum_is count_is mean reduced
