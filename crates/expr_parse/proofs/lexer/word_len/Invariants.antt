use Rattle.std.proofs.Common.{◌≡◌, ◌+◌, drop}
use Rattle.std.specs.List.{prefix_len}
use Rattle.expr_parse.specs.Tokens.{goes_on_word}
use Rattle.expr_parse.proofs.lexer.word_len.Given as goal

abbrev pub invariant-loop-byte : goal.invariant-loop-byte
invariant-loop-byte l = (l.len ≡ l.byte-index) × (l.len + prefix_len goes_on_word (drop l.byte-index l.bytes) ≡ prefix_len goes_on_word l.bytes)
