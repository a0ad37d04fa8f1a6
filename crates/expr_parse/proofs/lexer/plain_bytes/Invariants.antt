use Rattle.std.proofs.Common.{◌≡◌, ◌++◌, drop, false}
use Rattle.expr_parse.specs.Tokens.{plain}
use Rattle.expr_parse.proofs.lexer.plain_bytes.Given as goal

abbrev pub invariant-loop-byte : goal.invariant-loop-byte
invariant-loop-byte l = l.plain.items ++ plain l.escaped (drop l.byte-index l.bytes) ≡ plain false l.bytes
