-- Changes of a table's rows, and the rows that they lead to.
use Rattle.std.specs.Prelude.{◌≡◌, ℕ, ◌+◌, ◌≤◌, List, [], ◌∷◌, ◌++◌, length, map, fold, All, ◌||◌, IsTrue, Option, None, IfSome, is_some, option_map, option_to_list}
use Rattle.std.specs.List.Sorted.{IsPermutation}
use Rattle.std.specs.Map.{lookup}
use Rattle.cell_core.specs.declared.cell.Cell.{Cell}
use Rattle.cell_core.specs.declared.schema.Column.{Column}
use Rattle.cell_core.specs.Cells.{same_cell}
pub use Rattle.cell_core.specs.Limits.{max_rows}
use Rattle.cell_core.specs.Schemas.{SchemaData}
use Rattle.row_batch.specs.Batches.{Store, pair_of, without, put_batch}
use Rattle.row_batch.specs.Checks.{cell_fault}
use Rattle.row_batch.specs.declared.batch.Batch.{Batch}
use Rattle.row_batch.specs.declared.batch.Batch.TheVariants as batch
use Rattle.row_batch.specs.declared.batch.Pair.{Pair}
use Rattle.row_batch.specs.declared.change.RowChange.{RowChange}

-- rows by their keys, as a map's entries
abbrev pub entries_of : List Pair → List (Cell × List Cell)
entries_of pairs = map (λ p. (p.key, p.row)) pairs

-- the row that stands at a key
abbrev pub row_at : List Pair → Cell → Option (List Cell)
row_at pairs key = lookup (same_cell key) (entries_of pairs)

-- ---- changes, acted in order

-- the rows after a change: what stood at its key is dropped, and its new row, where it has one, is put there
abbrev pub changed : List Pair → RowChange → List Pair
changed pairs change = without (same_cell change.key) pairs ++ option_to_list (option_map (pair_of change.key) change.new)

abbrev pub changed_all : List Pair → List RowChange → List Pair
changed_all pairs changes = fold changed pairs changes

-- each change's old row is what stood at its key then, each has an old or a new row, and there are never
-- more rows in between than a table may have
abbrev pub FitRows : List Pair → List RowChange → Type 0
FitRows pairs [] = Unit {0}
FitRows pairs (change ∷ changes) =
    (change.old ≡ row_at pairs change.key) × IsTrue (is_some change.old || is_some change.new)
    × (length (changed pairs change) ≤ max_rows) × FitRows (changed pairs change) changes

-- ---- the cells of rows

-- one cell for each column, null or of the column's type and in its range
abbrev pub FitsColumns : List Column → List Cell → Type 0
FitsColumns [] [] = Unit {0}
FitsColumns (column ∷ columns) (cell ∷ cells) = (cell_fault column.kind cell ≡ None) × FitsColumns columns cells
FitsColumns columns cells = ⊥

-- the old and the new row of a change are rows of these columns
abbrev pub HasRowsOf : List Column → RowChange → Type 0
HasRowsOf columns change = IfSome change.old (FitsColumns columns) × IfSome change.new (FitsColumns columns)

-- ---- the changes that a batch makes

-- one for each patch, each key or each row that is cleared
abbrev pub most_changes : Store → Batch → ℕ
most_changes s (batch.Update patches) = length patches
most_changes s (batch.Remove keys) = length keys
most_changes s batch.Clear = length s.pairs
most_changes s (batch.Replace patches) = length s.pairs + length patches

-- changes that lead from rows to those after a batch
pub record AreChangesOf (schema : SchemaData) (s : Store) (b : Batch) (changes : List RowChange) : Type 0 where
  pub fit : FitRows s.pairs changes
  pub lead : IsPermutation (put_batch schema s b).pairs (changed_all s.pairs changes)
  pub few : length changes ≤ most_changes s b
  pub rows : All (HasRowsOf schema.columns) changes
