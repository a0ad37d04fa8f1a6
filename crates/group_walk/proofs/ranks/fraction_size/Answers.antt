use Rattle.std.proofs.Common.{◌≡◌, pos, to_z, of_z, unsigned_abs, FitsSigned, subst, arith}
use Rattle.std.proofs.lemmas.Int.{to_z-of_z, ints}
use Rattle.std.specs.Int.{w128}
use Rattle.value_core.specs.FractionLaws.{Fraction-unique}
use Rattle.value_core.specs.Reduced.{IsReduced}
use Rattle.place_order.specs.Sizes.{fraction_size, reduced_size}
use Rattle.group_walk.proofs.ranks.fraction_size.Goals as goal

pub returns : goal.returns
unfolding fraction_size
returns c =
    let f = c.args.fraction in
    let made = c.reduced.result in
    let size = c.unsigned_abs.result in
    let near = f.n_in_reach in
    let within = f.d_in_reach in
    let value = c.unsigned_abs.ensures.value in
    let fits : FitsSigned w128 f.d = omega (arith, ints) in
    let is_size : to_z w128 size ≡ pos (unsigned_abs f.n) = omega (arith, ints) in
    let by_size = subst (λ z. IsReduced z (to_z w128 (of_z w128 f.d)) made.n made.d) is_size c.reduced.ensures in
    let reduced = subst (λ z. IsReduced (pos (unsigned_abs f.n)) z made.n made.d) (to_z-of_z w128 f.d fits) by_size in
    Fraction-unique (pos (unsigned_abs f.n)) f.d made (fraction_size f) f.lowest.positive reduced (reduced_size f.n f.d f.lowest)
