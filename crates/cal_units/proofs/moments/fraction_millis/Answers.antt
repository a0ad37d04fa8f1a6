-- Fewer digits than three stand for as many zeros more.
use Rattle.std.proofs.Common.{◌*◌, Some, sym, ap, ◌∙◌}
use Rattle.cal_units.proofs.MomentTextLemmas.{fraction_millis-one, fraction_millis-two}
use Rattle.cal_units.proofs.moments.fraction_millis.Goals as goal

pub returns-in-1-clause-value : goal.returns-in-1-clause-value
returns-in-1-clause-value c = ap (λ n. Some (n * 100)) c.number.ensures.value ∙ sym (fraction_millis-one _ c.in-1.is)

pub returns-in-2-clause-value : goal.returns-in-2-clause-value
returns-in-2-clause-value c = ap (λ n. Some (n * 10)) c.number-in-2.ensures.value ∙ sym (fraction_millis-two _ c.in-2.is)
