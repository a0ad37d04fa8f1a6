use Rattle.expr_spec.proofs.FitLemmas.{value_in, fitting_row}
use Rattle.expr_spec.proofs.laws.checked_value_laws.Goals as goal

pub returns-clause-value : goal.returns-clause-value
returns-clause-value c = λ columns tree kind row checked fit. value_in columns row tree kind fit checked.typed checked.numbers

pub returns-clause-calendar : goal.returns-clause-calendar
returns-clause-calendar c = λ columns row fit. fitting_row columns row fit
