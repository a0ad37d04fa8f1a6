use Rattle.std.proofs.Common.{◌≡◌, false, length, get_or, sym, ap, ◌∙◌, arith}
use Rattle.expr_parse.specs.Tokens.{is_blank}
use Rattle.expr_parse.proofs.TokenSteps.{run_token}
use Rattle.expr_parse.proofs.reading.read.Goals as goal

pub tokens-preserved : goal.tokens-preserved
tokens-preserved c =
    let text = c.args.text.now in
    let l = c.in_ok-lexeme.lexeme in
    let blank : is_blank (get_or text c.tokens.at 0) ≡ false = ap (λ ys. is_blank (get_or ys c.tokens.at 0)) (sym c.as_bytes.ensures.value) ∙ sym c.is_blank.ensures ∙ c.if-is_blank.false in
    (c.tokens.invariant.0 ∙ run_token 64 (length text) c.tokens.at c.tokens.want c.in_ok-want.want c.tokens.frames c.step.new.frames text l (omega arith) blank c.in_ok-lexeme.ensures.value c.in_ok-lexeme.ensures.size.0 c.in_ok-want.ensures, c.in_ok-lexeme.ensures.size.1)
