-- Rows of whole numbers under their keys.
use Rattle.std.specs.Prelude.{List, map, IsTrue}
use Rattle.cell_core.specs.Limits.{is_integer}
use Rattle.cell_core.specs.declared.cell.Cell.{Cell}
use Rattle.cell_core.specs.declared.cell.Cell.TheVariants as cell
use Rattle.row_batch.specs.Batches.{pair_of}
use Rattle.row_batch.specs.declared.batch.Pair.{Pair}

-- the rows of a map from keys
abbrev pub rows_of : List (Cell × List Cell) → List Pair
rows_of entries = map (λ e. pair_of e.0 e.1) entries

-- null or a whole number in range, which every aggregate takes
abbrev pub IsNumber : Cell → Type 0
IsNumber cell.Null = Unit {0}
IsNumber (cell.Int n) = IsTrue (is_integer n)
IsNumber (cell.Bool b) = ⊥
IsNumber (cell.Date d) = ⊥
IsNumber (cell.Moment t) = ⊥
IsNumber (cell.Words s) = ⊥
