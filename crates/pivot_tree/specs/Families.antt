-- Values under keys, each of which stands for the rows of its key.
use Rattle.std.specs.Prelude.{◌≡◌, ℕ, ◌<◌, List, [], ◌∷◌, length, Option, Some, None}
use Rattle.std.specs.Map.{lookup}
use Rattle.cell_core.specs.Cells.{same_cell}
use Rattle.cell_core.specs.declared.cell.Cell.{Cell}
use Rattle.row_batch.specs.declared.batch.Pair.{Pair}
use Rattle.view_spec.specs.Paths.{same_path}

-- none where there are no rows, and else one that stands for them
abbrev pub At : {G : Type 0} → (G → List Pair → Type 0) → Option G → List Pair → Type 0
At P None rows = rows ≡ []
At P (Some g) rows = P g rows × (0 < length rows)

-- where nothing is split all members stand under the empty split path, so no group is kept under it
abbrev pub rows_under : List Cell → List Pair → List Pair
rows_under [] rows = []
rows_under (c ∷ cs) rows = rows

-- a count of rows
abbrev pub IsCountOf : ℕ → List Pair → Type 0
IsCountOf n rows = n ≡ length rows

-- what a map has under a cell or a path
abbrev pub at_cell : {X : Type 0} → List (Cell × X) → Cell → Option X
at_cell entries c = lookup (same_cell c) entries

abbrev pub at_path : {X : Type 0} → List (List Cell × X) → List Cell → Option X
at_path entries path = lookup (same_path path) entries
