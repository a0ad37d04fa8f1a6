-- Lists of pairs of a row key and a cell, ascending by row key.
use Rattle.std.specs.Prelude.{List, Option}
use Rattle.std.specs.BTreeMap.{insert_entry}
use Rattle.std.specs.Map.{values_of, lookup, remove_entry}
use Rattle.cell_core.specs.Cells.{cell_order, same_cell}
use Rattle.cell_core.specs.declared.cell.Cell.{Cell}

-- the cells in the order of row keys
abbrev pub cells_of : List (Cell × Cell) → List Cell
cells_of pairs = values_of pairs

-- the cell of a row key, where there is one
abbrev pub cell_at : List (Cell × Cell) → Cell → Option Cell
cell_at pairs key = lookup (same_cell key) pairs

-- with a cell at a row key, which goes to its place in the order of row keys
abbrev pub with_pair : List (Cell × Cell) → Cell → Cell → List (Cell × Cell)
with_pair pairs key cell = insert_entry cell_order pairs key cell

-- without the pair of a row key
abbrev pub without_key : List (Cell × Cell) → Cell → List (Cell × Cell)
without_key pairs key = remove_entry (same_cell key) pairs
