use Rattle.std.proofs.Common.{◌≡◌, map, take}
use Rattle.hub_spec.specs.Answers.{column_words}
use Rattle.hub_core.proofs.info.column_words.Given as goal

abbrev pub invariant-loop-column : goal.invariant-loop-column
invariant-loop-column l = l.words.items ≡ map column_words (take l.column-index l.columns)
