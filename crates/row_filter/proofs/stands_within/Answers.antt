use Rattle.std.proofs.lemmas.Str.Pattern.{contains_text}
use Rattle.expr_spec.proofs.TextLemmas.{stands_within-subslice}
use Rattle.row_filter.proofs.stands_within.Goals as goal

pub returns : goal.returns
returns c = stands_within-subslice _ _ _ (contains_text _ _ _ c.contains.ensures.cases)
