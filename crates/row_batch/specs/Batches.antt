-- The rows of a table after a batch.
use Rattle.std.specs.Prelude.{ℕ, ◌+◌, ◌%◌, pos, List, [], ◌∷◌, ◌++◌, length, Bool, not, filter, fold, replicate, slice_index_or, if◌then◌else◌}
use Rattle.std.specs.List.{list_any}
use Rattle.cell_core.specs.declared.cell.Cell.{Cell}
use Rattle.cell_core.specs.declared.cell.Cell.TheVariants.{Null, Int}
use Rattle.cell_core.specs.declared.schema.Keeping.{Keeping}
use Rattle.cell_core.specs.declared.schema.Keeping.TheVariants.{Indexed, Limited, Free}
use Rattle.cell_core.specs.Cells.{same_cell}
use Rattle.cell_core.specs.Schemas.{SchemaData}
use Rattle.row_batch.specs.declared.batch.PatchCell.{PatchCell}
use Rattle.row_batch.specs.declared.batch.PatchCell.TheVariants.{Keep, Set}
use Rattle.row_batch.specs.declared.batch.Batch.{Batch}
use Rattle.row_batch.specs.declared.batch.Batch.TheVariants as batch
use Rattle.row_batch.specs.declared.batch.Pair.{Pair}

-- a table's rows, each under its key, and how many rows a table without an index has been given
-- since it was made or cleared
pub record Store : Type 0 where
  pub pairs : List Pair
  pub number : ℕ

abbrev pub empty_store : Store
empty_store = record { pairs = []; number = 0 }

-- ---- one row

-- the old cell where the patch keeps it, and else the cell that it sets
abbrev pub patched_cell : Cell → PatchCell → Cell
patched_cell old Keep = old
patched_cell old (Set cell) = cell

abbrev pub patched : List Cell → List PatchCell → List Cell
patched [] patch = []
patched (c ∷ cs) [] = c ∷ cs
patched (c ∷ cs) (p ∷ ps) = patched_cell c p ∷ patched cs ps

-- a new row has null in each column that its patch keeps
abbrev pub new_row : ℕ → List PatchCell → List Cell
new_row width patch = patched (replicate width Null) patch

abbrev pub pair_of : Cell → List Cell → Pair
pair_of key row = record { key = key; row = row }

-- ---- rows under keys

-- the row of that key patched, or a new row at the end
abbrev pub put_at : ℕ → Cell → List PatchCell → List Pair → List Pair
put_at width key patch [] = pair_of key (new_row width patch) ∷ []
put_at width key patch (p ∷ ps) = if same_cell p.key key then pair_of p.key (patched p.row patch) ∷ ps else p ∷ put_at width key patch ps

abbrev pub without : (Cell → Bool) → List Pair → List Pair
without drops pairs = filter (λ p. not (drops p.key)) pairs

-- the cell that a patch sets in a column, and null where it keeps that column
abbrev pub key_in : ℕ → List PatchCell → Cell
key_in column patch = patched_cell Null (slice_index_or patch column Keep)

abbrev pub put_patch : Keeping → ℕ → Store → List PatchCell → Store
put_patch (Indexed column) width s patch = record s { pairs = put_at width (key_in column patch) patch s.pairs }
put_patch (Limited slots) width s patch =
    let slot = Int (pos (s.number % slots)) in
    record { pairs = without (same_cell slot) s.pairs ++ pair_of slot (new_row width patch) ∷ []; number = s.number + 1 }
put_patch Free width s patch = record { pairs = s.pairs ++ pair_of (Int (pos s.number)) (new_row width patch) ∷ []; number = s.number + 1 }

abbrev pub put_patches : SchemaData → Store → List (List PatchCell) → Store
put_patches schema s patches = fold (put_patch schema.keeping (length schema.columns)) s patches

-- the rows after a batch
abbrev pub put_batch : SchemaData → Store → Batch → Store
put_batch schema s (batch.Update patches) = put_patches schema s patches
put_batch schema s (batch.Remove keys) = record s { pairs = without (λ key. list_any (same_cell key) keys) s.pairs }
put_batch schema s batch.Clear = empty_store
put_batch schema s (batch.Replace patches) = put_patches schema empty_store patches

-- how many rows a batch has that wait to be put
abbrev pub rows_in : Batch → ℕ
rows_in (batch.Update patches) = length patches
rows_in (batch.Remove keys) = 0
rows_in batch.Clear = 0
rows_in (batch.Replace patches) = length patches
