-- The types of shown columns.
use Rattle.std.specs.Prelude.{ℕ, List, codes}
use Rattle.cell_core.specs.declared.cell.CellType.{CellType}
use Rattle.cell_core.specs.declared.cell.CellType.TheVariants as cell
use Rattle.cell_core.specs.Schemas.{type_name}
use Rattle.view_types.specs.declared.shown.ShownType.{ShownType}
use Rattle.view_types.specs.declared.shown.ShownType.TheVariants as shown

abbrev pub shown_type : CellType → ShownType
shown_type cell.Integer = shown.Integer
shown_type cell.Boolean = shown.Boolean
shown_type cell.Date = shown.Date
shown_type cell.Moment = shown.Moment
shown_type cell.Words = shown.Words

abbrev pub shown_type_name : ShownType → List ℕ
shown_type_name shown.Integer = type_name cell.Integer
shown_type_name shown.Boolean = type_name cell.Boolean
shown_type_name shown.Date = type_name cell.Date
shown_type_name shown.Moment = type_name cell.Moment
shown_type_name shown.Words = type_name cell.Words
shown_type_name shown.Fraction = codes "fraction"
