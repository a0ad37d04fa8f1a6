use Rattle.std.proofs.Common.{arith}
use Rattle.std.proofs.lemmas.Grind.{common_steps}
use Rattle.expr_parse.proofs.Words.{word_end}
use Rattle.expr_parse.proofs.lexer.word_at.Goals as goal

pub range-requires-clause-end_boundary : goal.range-requires-clause-end_boundary
range-requires-clause-end_boundary c = word_end c.args.text.now c.args.at c.word_len-length.result c.utf8.text c.requires.within c.requires.begins (grind (arith, common_steps)) (grind (arith, common_steps))
