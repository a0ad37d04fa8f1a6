-- Which batches a schema takes, and the first cause against another.
use Rattle.std.specs.Prelude.{◌≡◌, ℕ, ◌+◌, nat_lt, List, [], ◌∷◌, length, All, Bool, true, false, ◌&&◌, Option, Some, None, option_map, slice_get, if◌then◌else◌}
use Rattle.std.specs.Option.{option_or}
use Rattle.cal_units.specs.Calendar.{is_day, is_moment}
use Rattle.cell_core.specs.declared.cell.Cell.{Cell}
use Rattle.cell_core.specs.declared.cell.Cell.TheVariants as cell
use Rattle.cell_core.specs.declared.cell.CellType.{CellType}
use Rattle.cell_core.specs.declared.cell.CellType.TheVariants.{Integer, Boolean, Date, Moment, Words}
use Rattle.cell_core.specs.declared.schema.Column.{Column}
use Rattle.cell_core.specs.declared.schema.Keeping.{Keeping}
use Rattle.cell_core.specs.declared.schema.Keeping.TheVariants.{Indexed, Limited, Free}
use Rattle.cell_core.specs.declared.schema.Numbers.TheVariants.{One, Two}
pub use Rattle.cell_core.specs.Cells.{is_null}
pub use Rattle.cell_core.specs.Keepings.{IsIndexed, is_key_column}
pub use Rattle.cell_core.specs.Limits.{is_integer}
use Rattle.cell_core.specs.Limits.{max_text}
use Rattle.cell_core.specs.Schemas.{SchemaData}
use Rattle.row_batch.specs.Batches.{key_in}
use Rattle.row_batch.specs.declared.batch.Batch.{Batch}
use Rattle.row_batch.specs.declared.batch.Batch.TheVariants as batch
use Rattle.row_batch.specs.declared.batch.PatchCell.{PatchCell}
use Rattle.row_batch.specs.declared.batch.PatchCell.TheVariants.{Keep, Set}
use Rattle.row_batch.specs.declared.refused.BatchRefused.{BatchRefused}
use Rattle.row_batch.specs.declared.refused.RowCause.{RowCause}
use Rattle.row_batch.specs.declared.refused.RowCause.TheVariants as cause

-- the most rows or keys of one batch
abbrev pub max_batch : ℕ
max_batch = 1024

-- ---- one cell

abbrev pub unless_in : Bool → RowCause → Option RowCause
unless_in fits why = if fits then None else Some why

-- the cause against a cell of a column of that type: another kind, or a value out of range; null fits
-- every type
abbrev pub cell_fault : CellType → Cell → Option RowCause
cell_fault kind cell.Null = None
cell_fault Integer (cell.Int z) = unless_in (is_integer z) cause.Range
cell_fault Boolean (cell.Bool b) = None
cell_fault Date (cell.Date day) = unless_in (is_day day) cause.Range
cell_fault Moment (cell.Moment ms) = unless_in (is_moment ms) cause.Range
cell_fault Words (cell.Words s) = if nat_lt max_text (length s) then Some cause.Long else None
cell_fault kind other = Some cause.BadType

-- ---- one row

abbrev pub refused : RowCause → ℕ → ℕ → BatchRefused
refused why row column = record { cause = why; at = Two row column }

abbrev pub without_key : ℕ → BatchRefused
without_key row = record { cause = cause.Index; at = One row }

-- the column is left out or set to null
abbrev pub sets_nothing : PatchCell → Bool
sets_nothing Keep = true
sets_nothing (Set cell.Null) = true
sets_nothing (Set other) = false

abbrev pub set_fault : CellType → PatchCell → Option RowCause
set_fault kind Keep = None
set_fault kind (Set c) = cell_fault kind c

-- the one cause in column i of a row
abbrev pub column_fault : Keeping → ℕ → ℕ → Column → PatchCell → Option BatchRefused
column_fault keeping row i c p =
    if is_key_column keeping i && sets_nothing p then Some (without_key row)
    else option_map (λ why. refused why row i) (set_fault c.kind p)

-- the first cause from column i on
abbrev pub patch_fault : Keeping → ℕ → ℕ → List Column → List PatchCell → Option BatchRefused
patch_fault keeping row i [] patch = None
patch_fault keeping row i (c ∷ columns) [] = None
patch_fault keeping row i (c ∷ columns) (p ∷ patch) =
    option_or (column_fault keeping row i c p) (patch_fault keeping row (i + 1) columns patch)

-- ---- a batch

abbrev pub patches_fault : SchemaData → ℕ → List (List PatchCell) → Option BatchRefused
patches_fault schema row [] = None
patches_fault schema row (patch ∷ patches) =
    option_or (patch_fault schema.keeping row 0 schema.columns patch) (patches_fault schema (row + 1) patches)

-- the type of the index column
abbrev pub kind_at : List Column → ℕ → Option CellType
kind_at columns i = option_map (λ c. c.kind) (slice_get columns i)

abbrev pub key_fault : Option CellType → ℕ → ℕ → Cell → Option BatchRefused
key_fault None row column key = None
key_fault (Some kind) row column key =
    if is_null key then Some (without_key row) else option_map (λ why. refused why row column) (cell_fault kind key)

abbrev pub keys_fault : Option CellType → ℕ → ℕ → List Cell → Option BatchRefused
keys_fault kind column row [] = None
keys_fault kind column row (key ∷ keys) = option_or (key_fault kind row column key) (keys_fault kind column (row + 1) keys)

abbrev pub removed_fault : SchemaData → Keeping → List Cell → Option BatchRefused
removed_fault schema (Indexed column) keys = keys_fault (kind_at schema.columns column) column 0 keys
removed_fault schema (Limited slots) keys = None
removed_fault schema Free keys = None

-- more than 1,024 rows or keys; else what comes first of them
abbrev pub counted_fault : ℕ → Option BatchRefused → Option BatchRefused
counted_fault count first = if nat_lt max_batch count then Some (record { cause = cause.Rows; at = One count }) else first

abbrev pub batch_fault : SchemaData → Batch → Option BatchRefused
batch_fault schema (batch.Update patches) = counted_fault (length patches) (patches_fault schema 0 patches)
batch_fault schema (batch.Remove keys) = counted_fault (length keys) (removed_fault schema schema.keeping keys)
batch_fault schema batch.Clear = None
batch_fault schema (batch.Replace patches) = counted_fault (length patches) (patches_fault schema 0 patches)

-- ---- the batches that a table takes

abbrev pub HasWidth : ℕ → List PatchCell → Type 0
HasWidth width patch = length patch ≡ width

-- each patch has one cell for each column, and keys are removed from a table with an index alone
abbrev pub IsShaped : SchemaData → Batch → Type 0
IsShaped schema (batch.Update patches) = All (HasWidth (length schema.columns)) patches
IsShaped schema (batch.Remove keys) = IsIndexed schema.keeping
IsShaped schema batch.Clear = Unit {0}
IsShaped schema (batch.Replace patches) = All (HasWidth (length schema.columns)) patches

-- it has this shape, and nothing is to be said against it
pub record IsChecked (schema : SchemaData) (batch : Batch) : Type 0 where
  pub shaped : IsShaped schema batch
  pub good : batch_fault schema batch ≡ None

-- ---- one patch of such a batch

abbrev pub patches_of : Batch → List (List PatchCell)
patches_of (batch.Update patches) = patches
patches_of (batch.Remove keys) = []
patches_of batch.Clear = []
patches_of (batch.Replace patches) = patches

-- it has one cell for each column, and nothing is to be said against it in its row
pub record IsCheckedPatch (schema : SchemaData) (patch : List PatchCell) : Type 0 where
  pub width : HasWidth (length schema.columns) patch
  pub row : ℕ
  pub good : patch_fault schema.keeping row 0 schema.columns patch ≡ None

-- the index cell of a patch, where the table has an index
abbrev pub index_cell : Keeping → List PatchCell → Option Cell
index_cell (Indexed column) patch = Some (key_in column patch)
index_cell (Limited slots) patch = None
index_cell Free patch = None
