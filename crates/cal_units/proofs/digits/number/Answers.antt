-- The number so far is below ten to the count of its digits.
use Rattle.std.proofs.Common.{sym, ◌∙◌, ap, arith}
use Rattle.std.specs.Str.Parse.{digits_value}
use Rattle.std.proofs.lemmas.List.{take_all}
use Rattle.std.proofs.lemmas.Int.Digits.{digits_value-lt}
use Rattle.cal_units.proofs.DigitLemmas.{number_step}
use Rattle.cal_units.proofs.digits.number.Goals as goal

pub overflow_mul-number : goal.overflow_mul-number
overflow_mul-number c =
    let step = number_step _ _ _ c.requires.digits c.requires.short c.loop-digit-test.true c.loop-digit.invariant in
    omega arith

pub overflow_sub-number : goal.overflow_sub-number
overflow_sub-number c =
    let step = number_step _ _ _ c.requires.digits c.requires.short c.loop-digit-test.true c.loop-digit.invariant in
    omega arith

pub overflow_add-number : goal.overflow_add-number
overflow_add-number c =
    let step = number_step _ _ _ c.requires.digits c.requires.short c.loop-digit-test.true c.loop-digit.invariant in
    omega arith

pub loop-digit-preserved : goal.loop-digit-preserved
loop-digit-preserved c =
    sym (number_step _ _ _ c.requires.digits c.requires.short c.loop-digit-test.true c.loop-digit.invariant).next

pub returns-clause-bound : goal.returns-clause-bound
returns-clause-bound c =
    let same = c.loop-digit.invariant ∙ ap (digits_value 10) (take_all _ _ c.loop-digit-test.false) in
    omega (arith, digits_value-lt 10 c.args.digits.now c.requires.digits, same)
