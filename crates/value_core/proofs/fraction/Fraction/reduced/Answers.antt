use Rattle.std.proofs.Common.{◌≡◌, ℤ, ◌<◌, ◌≤◌, ◌^◌, pos, to_z, of_z, FitsSigned, unsigned_abs, int_div, sym, ap, subst, ◌∙◌, arith}
use Rattle.std.proofs.lemmas.Int.{to_z-of_z, ints}
use Rattle.std.specs.Int.{w128}
use Rattle.value_core.specs.Reduced.{IsReduced, IsInReach}
use Rattle.value_core.specs.Divisors.{IsGreatestDivisor}
use Rattle.value_core.specs.FractionLaws.{IsReduced-itself}
use Rattle.value_core.proofs.Lowest.{divisor_in_reach, reduced_by_divisor, quotient_in_reach, quotient_fits, quotient_is}
use Rattle.value_core.proofs.fraction.Fraction.reduced.Goals as goal
use Rattle.value_core.proofs.fraction.Fraction.reduced.Goals.{After-greatest_divisor-divisor}

module _ (c : After-greatest_divisor-divisor) where
  -- a part of the result, as the code reads its quotient
  abbrev result_of : ℤ → ℤ
  result_of z = to_z w128 (of_z w128 (int_div (to_z w128 (of_z w128 z)) (to_z w128 c.greatest_divisor-divisor.result)))

  divisor_is : IsGreatestDivisor (unsigned_abs c.args.n) (unsigned_abs c.args.d) c.greatest_divisor-divisor.result
  divisor_is =
      let n_is = c.unsigned_abs.ensures.value ∙ ap unsigned_abs (to_z-of_z w128 c.args.n c.ranges.n) in
      let d_is = c.unsigned_abs-2.ensures.value ∙ ap unsigned_abs (to_z-of_z w128 c.args.d c.ranges.d) in
      subst (λ z. IsGreatestDivisor z (unsigned_abs c.args.d) c.greatest_divisor-divisor.result) n_is
      (subst (λ z. IsGreatestDivisor c.unsigned_abs.result z c.greatest_divisor-divisor.result) d_is c.greatest_divisor-divisor.ensures)

  bounds : (0 < c.greatest_divisor-divisor.result) × (c.greatest_divisor-divisor.result ≤ 2 ^ 100)
  bounds = divisor_in_reach c.args.n c.args.d c.greatest_divisor-divisor.result c.requires.positive c.requires.d_in_reach divisor_is

  divisor_fits : FitsSigned w128 (pos c.greatest_divisor-divisor.result)
  divisor_fits = let within = bounds.1 in omega (arith, ints)

  n_is : result_of c.args.n ≡ int_div c.args.n (pos c.greatest_divisor-divisor.result)
  n_is = quotient_is c.args.n c.greatest_divisor-divisor.result c.ranges.n bounds.0 divisor_fits

  d_is : result_of c.args.d ≡ int_div c.args.d (pos c.greatest_divisor-divisor.result)
  d_is = quotient_is c.args.d c.greatest_divisor-divisor.result c.ranges.d bounds.0 divisor_fits

  result_is_reduced : IsReduced c.args.n c.args.d (result_of c.args.n) (result_of c.args.d)
  result_is_reduced =
      subst (λ z. IsReduced c.args.n c.args.d z (result_of c.args.d)) (sym n_is)
      (subst (λ z. IsReduced c.args.n c.args.d (int_div c.args.n (pos c.greatest_divisor-divisor.result)) z) (sym d_is) (reduced_by_divisor c.args.n c.args.d c.greatest_divisor-divisor.result c.requires.positive divisor_is))

  quotient_allowed : (z : ℤ) → FitsSigned w128 z → (0 < c.greatest_divisor-divisor.result) × FitsSigned w128 (int_div (to_z w128 (of_z w128 z)) (to_z w128 c.greatest_divisor-divisor.result))
  quotient_allowed z fits = (bounds.0, quotient_fits z c.greatest_divisor-divisor.result fits bounds.0 divisor_fits)

  n_within : IsInReach (result_of c.args.n)
  n_within = subst IsInReach (sym n_is) (quotient_in_reach c.args.n c.greatest_divisor-divisor.result c.requires.n_in_reach)

  d_within : IsInReach (result_of c.args.d)
  d_within = subst IsInReach (sym d_is) (quotient_in_reach c.args.d c.greatest_divisor-divisor.result c.requires.d_in_reach)

pub overflow_cast-divisor : goal.overflow_cast-divisor
overflow_cast-divisor c = divisor_fits (goal.at.overflow_cast-divisor c).After-greatest_divisor-divisor

pub nonzero_div-result : goal.nonzero_div-result
nonzero_div-result c =
    quotient_allowed (goal.at.nonzero_div-result c).After-greatest_divisor-divisor c.args.n c.ranges.n

pub nonzero_div-result-2 : goal.nonzero_div-result-2
nonzero_div-result-2 c =
    quotient_allowed (goal.at.nonzero_div-result-2 c).After-greatest_divisor-divisor c.args.d c.ranges.d

pub invariant_of-result : goal.invariant_of-result
invariant_of-result c =
    let known = (goal.at.invariant_of-result c).After-greatest_divisor-divisor in
    record {
      lowest = IsReduced-itself c.args.n c.args.d _ _ c.requires.positive (result_is_reduced known);
      n_in_reach = n_within known;
      d_in_reach = d_within known;
    }

pub returns : goal.returns
returns c = result_is_reduced (goal.at.returns c).After-greatest_divisor-divisor
