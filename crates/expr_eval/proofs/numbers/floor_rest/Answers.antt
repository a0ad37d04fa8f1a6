use Rattle.std.proofs.Common.{sym, arith, pos, ◌<ℤ◌, to_z-of_z}
use Rattle.jiff_core.proofs.SignedLemmas.{signed_casts}
use Rattle.expr_eval.proofs.NumberLemmas.{rest_negative}
use Rattle.expr_eval.proofs.numbers.floor_rest.Goals as goal

pub returns-then-b-lt0 : goal.returns-then-b-lt0
returns-then-b-lt0 c =
    let below : c.args.b <ℤ pos 0 = omega (arith, signed_casts) in
    rw (c.rest_below.ensures, to_z-of_z c.ranges.a, to_z-of_z c.ranges.b) (sym (rest_negative c.args.a c.args.b below))
