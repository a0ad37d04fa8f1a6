use Rattle.std.proofs.Common.{◌≡◌, drop, false}
use Rattle.expr_parse.specs.Tokens.{closing_quote}
use Rattle.expr_parse.proofs.lexer.closing_quote.Given as goal

abbrev pub invariant-loop-at : goal.invariant-loop-at
invariant-loop-at l = closing_quote l.quote l.escaped l.at (drop l.at l.bytes) ≡ closing_quote l.quote false 0 l.bytes
