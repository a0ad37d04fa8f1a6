-- What callers know of the rows that a tree stands for.
use Rattle.std.specs.Prelude.{◌≡◌, List, Some, None}
use Rattle.std.specs.List.Sorted.{IsStrictlySortedBy}
use Rattle.cell_core.specs.declared.cell.Cell.{Cell}
use Rattle.row_batch.specs.Batches.{pair_of}
use Rattle.row_batch.specs.Changes.{row_at}
use Rattle.row_batch.specs.declared.batch.Pair.{Pair}
use Rattle.view_spec.specs.Kept.{by_key}
use Rattle.pivot_tree.specs.Groups.{HasRow, IsApart}

-- among rows that ascend by key, the row that stands at a key may be taken off
abbrev pub FoundRowsAreThere : Type 0
FoundRowsAreThere = (rows : List Pair) (key : Cell) (row : List Cell) → IsStrictlySortedBy by_key rows → row_at rows key ≡ Some row → HasRow rows (pair_of key row)

-- where none stands at a key, no row has the key
abbrev pub MissingKeysAreApart : Type 0
MissingKeysAreApart = (rows : List Pair) (key : Cell) → row_at rows key ≡ None → IsApart key rows
