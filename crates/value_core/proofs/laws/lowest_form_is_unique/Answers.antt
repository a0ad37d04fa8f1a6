use Rattle.value_core.specs.FractionLaws.{Fraction-unique, IsReduced-unique}
use Rattle.value_core.proofs.laws.lowest_form_is_unique.Goals as goal

pub returns-clause-value : goal.returns-clause-value
returns-clause-value c = Fraction-unique

pub returns-clause-parts : goal.returns-clause-parts
returns-clause-parts c = IsReduced-unique
