use Rattle.std.proofs.Common.{◌*◌, FitsSigned, unsigned_abs, sym, ◌∙◌, arith}
use Rattle.std.proofs.lemmas.Int.{to_z-of_z, ints}
use Rattle.std.specs.Int.{w128}
use Rattle.std.specs.Ordering.{nat_cmp, int_cmp}
use Rattle.value_core.specs.Fractions.{fraction_order}
use Rattle.value_core.proofs.Floors.{fraction_apart, fraction_rests}
use Rattle.value_core.proofs.fraction.Fraction.order.Goals as goal

pub returns-then-is_ne : goal.returns-then-is_ne
unfolding fraction_order
returns-then-is_ne c =
    let x = c.args.self.now in
    let y = c.args.other.now in
    let fits : FitsSigned w128 c.floor.result = record { sfits = c.floor.type_inv } in
    let fits_too : FitsSigned w128 c.floor-2.result = record { sfits = c.floor-2.type_inv } in
    fraction_apart x.n x.d y.n y.d x.lowest.positive y.lowest.positive c.cmp-wholes.result
    (c.cmp-wholes.ensures ∙ (λ i. int_cmp ((to_z-of_z w128 _ fits ∙ c.floor.ensures) i) ((to_z-of_z w128 _ fits_too ∙ c.floor-2.ensures) i)))
    (sym c.is_ne.ensures ∙ c.if-is_ne.true)

pub returns : goal.returns
unfolding fraction_order
returns c =
    let x = c.args.self.now in
    let y = c.args.other.now in
    let fits : FitsSigned w128 c.floor.result = record { sfits = c.floor.type_inv } in
    let fits_too : FitsSigned w128 c.floor-2.result = record { sfits = c.floor-2.type_inv } in
    let x_reach = x.d_in_reach in
    let y_reach = y.d_in_reach in
    let x_fits : FitsSigned w128 x.d = omega (arith, ints) in
    let y_fits : FitsSigned w128 y.d = omega (arith, ints) in
    c.order_of_ratios.ensures
    ∙ (λ i. nat_cmp (c.above_floor.result * unsigned_abs (to_z-of_z w128 y.d y_fits i)) (c.above_floor-2.result * unsigned_abs (to_z-of_z w128 x.d x_fits i)))
    ∙ fraction_rests x.n x.d y.n y.d x.lowest.positive y.lowest.positive c.above_floor.result c.above_floor-2.result c.above_floor.ensures c.above_floor-2.ensures c.cmp-wholes.result
    (c.cmp-wholes.ensures ∙ (λ i. int_cmp ((to_z-of_z w128 _ fits ∙ c.floor.ensures) i) ((to_z-of_z w128 _ fits_too ∙ c.floor-2.ensures) i)))
    (sym c.is_ne.ensures ∙ c.if-is_ne.false)
