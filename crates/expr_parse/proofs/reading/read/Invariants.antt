use Rattle.std.proofs.Common.{◌≡◌, ◌-◌, ◌≤◌, [], length, drop}
use Rattle.expr_parse.specs.declared.frame.Want.TheVariants as want
use Rattle.expr_parse.specs.Machine.{run}
use Rattle.expr_parse.specs.Tokens.{tokens, tokens_from}
use Rattle.expr_parse.proofs.reading.read.Given as goal

abbrev pub invariant-tokens : goal.invariant-tokens
invariant-tokens l =
    (run 64 (length l.text) (want.Operand, []) (tokens l.text) ≡ run 64 (length l.text) (l.want, l.frames) (tokens_from l.at 0 (drop l.at l.text)))
    × (l.at ≤ length l.text)

abbrev pub decreases-tokens : goal.decreases-tokens
decreases-tokens l = length l.text - l.at
