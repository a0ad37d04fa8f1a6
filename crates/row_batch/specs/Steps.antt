-- The changes that a batch makes, one by one.
use Rattle.std.specs.Prelude.{ℕ, ◌+◌, ◌%◌, pos, List, [], ◌∷◌, ◌++◌, length, map, Option, Some, None, option_map, option_to_list}
use Rattle.cell_core.specs.declared.cell.Cell.{Cell}
use Rattle.cell_core.specs.declared.cell.Cell.TheVariants.{Int}
use Rattle.cell_core.specs.declared.schema.Keeping.{Keeping}
use Rattle.cell_core.specs.declared.schema.Keeping.TheVariants.{Indexed, Limited, Free}
use Rattle.row_batch.specs.declared.batch.PatchCell.{PatchCell}
use Rattle.cell_core.specs.Cells.{same_cell}
use Rattle.cell_core.specs.Schemas.{SchemaData}
use Rattle.row_batch.specs.declared.batch.Batch.{Batch}
use Rattle.row_batch.specs.declared.batch.Batch.TheVariants as batch
use Rattle.row_batch.specs.declared.batch.Pair.{Pair}
use Rattle.row_batch.specs.declared.change.RowChange.{RowChange}
use Rattle.row_batch.specs.Batches.{Store, empty_store, key_in, patched, new_row, without}
use Rattle.row_batch.specs.Changes.{row_at, changed}

-- the key that a patch acts on
abbrev pub key_of_step : Keeping → ℕ → List PatchCell → Cell
key_of_step (Indexed column) number patch = key_in column patch
key_of_step (Limited slots) number patch = Int (pos (number % slots))
key_of_step Free number patch = Int (pos number)

-- the old row patched, or else a new row
abbrev pub patched_or_new : ℕ → List PatchCell → Option (List Cell) → List Cell
patched_or_new width patch None = new_row width patch
patched_or_new width patch (Some old) = patched old patch

-- the row that a patch leaves where that row stood: without an index each row is new
abbrev pub row_of_step : Keeping → ℕ → List PatchCell → Option (List Cell) → List Cell
row_of_step (Indexed column) width patch old = patched_or_new width patch old
row_of_step (Limited slots) width patch old = new_row width patch
row_of_step Free width patch old = new_row width patch

-- how far rows are counted after it
abbrev pub number_of_step : Keeping → ℕ → ℕ
number_of_step (Indexed column) number = number
number_of_step (Limited slots) number = number + 1
number_of_step Free number = number + 1

-- ---- updates

-- a patch as one change of one key
abbrev pub change_of_step : Keeping → ℕ → Store → List PatchCell → RowChange
change_of_step keeping width s patch =
    let key = key_of_step keeping s.number patch in
    record { key = key; old = row_at s.pairs key; new = Some (row_of_step keeping width patch (row_at s.pairs key)) }

abbrev pub after_step : Keeping → ℕ → Store → List PatchCell → Store
after_step keeping width s patch =
    record { pairs = changed s.pairs (change_of_step keeping width s patch); number = number_of_step keeping s.number }

abbrev pub step_changes : Keeping → ℕ → Store → List (List PatchCell) → List RowChange
step_changes keeping width s [] = []
step_changes keeping width s (patch ∷ patches) = change_of_step keeping width s patch ∷ step_changes keeping width (after_step keeping width s patch) patches

-- ---- rows that go

abbrev pub removal : Cell → List Cell → RowChange
removal key row = record { key = key; old = Some row; new = None }

-- a key that isn't there makes no change
abbrev pub removals : List Pair → List Cell → List RowChange
removals pairs [] = []
removals pairs (key ∷ keys) = option_to_list (option_map (removal key) (row_at pairs key)) ++ removals (without (same_cell key) pairs) keys

abbrev pub clearing : List Pair → List RowChange
clearing pairs = map (λ p. removal p.key p.row) pairs

-- ---- a batch

abbrev pub changes_of : SchemaData → Store → Batch → List RowChange
changes_of schema s (batch.Update patches) = step_changes schema.keeping (length schema.columns) s patches
changes_of schema s (batch.Remove keys) = removals s.pairs keys
changes_of schema s batch.Clear = clearing s.pairs
changes_of schema s (batch.Replace patches) = clearing s.pairs ++ step_changes schema.keeping (length schema.columns) empty_store patches
