-- `and` and `or` give a truth or null.
use Rattle.std.proofs.Common.{true, false}
use Rattle.cell_core.specs.declared.cell.Cell.{Cell}
use Rattle.cell_core.specs.declared.cell.Cell.TheVariants.{Null, Bool as Truth, Int, Date, Moment, Words}
use Rattle.expr_spec.specs.Values as v

abbrev pub IsTruthOrNull : Cell → Type 0
IsTruthOrNull Null = Unit {0}
IsTruthOrNull (Truth b) = Unit {0}
IsTruthOrNull (Int z) = ⊥
IsTruthOrNull (Date d) = ⊥
IsTruthOrNull (Moment t) = ⊥
IsTruthOrNull (Words s) = ⊥

pub and_value : (a b : Cell) → IsTruthOrNull (v.and_value a b)
and_value (Truth false) b = tt
and_value a (Truth false) = tt
and_value (Truth true) (Truth true) = tt
and_value a b = tt

pub or_value : (a b : Cell) → IsTruthOrNull (v.or_value a b)
or_value (Truth true) b = tt
or_value a (Truth true) = tt
or_value (Truth false) (Truth false) = tt
or_value a b = tt
