use Rattle.std.proofs.Common.{drop}
use Rattle.expr_parse.specs.Tokens.{decimal}
use Rattle.expr_parse.proofs.Numbers.{Capped}
use Rattle.expr_parse.proofs.lexer.number_kind.Given as goal

abbrev pub invariant-loop-digit : goal.invariant-loop-digit
invariant-loop-digit l = Capped l.number (drop l.digit-index l.digits) (decimal l.digits)
