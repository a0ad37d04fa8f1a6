use Rattle.std.proofs.Common.{◌≡◌, ◌+◌, ◌-◌, ◌*◌, ◌<◌, get_or, drop, subst, sym, arith}
use Rattle.expr_parse.specs.Tokens.{decimal}
use Rattle.expr_parse.proofs.Numbers.{Capped, capped_more, capped_stays}
use Rattle.expr_parse.proofs.lexer.number_kind.Goals as goal
use Rattle.expr_parse.proofs.lexer.number_kind.Goals.{then-number-le-MAX_NUMBER, else-number-le-MAX_NUMBER}

pub loop-digit-preserved : goal.loop-digit-preserved
loop-digit-preserved c =
    let ds = c.args.digits.now in
    let i = c.loop-digit.digit-index in
    let n = c.loop-digit.number in
    let low : get_or ds i 0 < 256 = omega (arith, c.type_inv.digits i) in
    elim c.if-number-le-MAX_NUMBER.branch [
      | then-number-le-MAX_NUMBER w ↦
          let e : c.if-number-le-MAX_NUMBER.number ≡ n * 10 + (get_or ds i 0 - 48) = omega (arith, w.saturating_sub.ensures) in
          subst (λ m. Capped m (drop (i + 1) ds) (decimal ds)) (sym e) (capped_more ds i n (decimal ds) c.loop-digit-test.true low (omega arith) c.loop-digit.invariant)
      | else-number-le-MAX_NUMBER w ↦
          subst (λ m. Capped m (drop (i + 1) ds) (decimal ds)) (sym w.number-is) (capped_stays ds i n (decimal ds) (omega arith) c.loop-digit.invariant)
    ]
