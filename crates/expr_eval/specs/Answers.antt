-- Cells that answers are made of.
use Rattle.std.specs.Prelude.{Bool, Option, Some, None}
use Rattle.cell_core.specs.declared.cell.Cell.{Cell}
use Rattle.cell_core.specs.declared.cell.Cell.TheVariants as cell

-- a truth that is known, or null
abbrev pub truth_or_null : Option Bool → Cell
truth_or_null None = cell.Null
truth_or_null (Some b) = cell.Bool b
