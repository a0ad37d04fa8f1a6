-- Rows and keys that are read one by one, and the patch of a row from what was read in its columns.
use Rattle.std.specs.Prelude.{ℕ, ◌+◌, nat_lt, List, [], ◌∷◌, length, Bool, ◌&&◌, is_some, Option, Some, None, position, Result, Ok, Err, if◌then◌else◌}
use Rattle.std.specs.Str.{bytes_eq}
use Rattle.cell_core.specs.declared.cell.Cell.{Cell}
use Rattle.cell_core.specs.declared.schema.Column.{Column}
use Rattle.cell_core.specs.declared.schema.Keeping.{Keeping}
use Rattle.cell_core.specs.declared.schema.Numbers.TheVariants.{Zero, One}
use Rattle.cell_core.specs.Cells.{is_null}
use Rattle.cell_core.specs.Keepings.{is_key_column}
use Rattle.cell_core.specs.Schemas.{SchemaData}
use Rattle.row_batch.specs.Checks.{max_batch, refused, without_key, sets_nothing}
use Rattle.row_batch.specs.declared.batch.PatchCell.{PatchCell}
use Rattle.row_batch.specs.declared.batch.PatchCell.TheVariants.{Set}
use Rattle.row_batch.specs.declared.refused.BatchRefused.{BatchRefused}
use Rattle.row_batch.specs.declared.refused.RowsRefused.{RowsRefused}
use Rattle.row_batch.specs.declared.refused.RowsRefused.TheVariants.{Bad}
use Rattle.row_batch.specs.declared.refused.RowCause.{RowCause}
use Rattle.row_batch.specs.declared.refused.RowCause.TheVariants as cause

-- ---- refusals

-- of the whole, with no place
abbrev pub of_whole : RowCause → BatchRefused
of_whole why = record { cause = why; at = Zero }

-- of a row
abbrev pub of_row : RowCause → ℕ → BatchRefused
of_row why row = record { cause = why; at = One row }

-- of so many rows or keys
abbrev pub too_many : ℕ → BatchRefused
too_many count = record { cause = cause.Rows; at = One count }

-- the refusal where there is one, and else what follows
abbrev pub unless_refused : {X E : Type 0} → Option E → Result X E → Result X E
unless_refused None after = after
unless_refused (Some why) after = Err why

-- the outcome as a reader's answer
abbrev pub answer_of : {X : Type 0} → Result X BatchRefused → Result X RowsRefused
answer_of (Ok x) = Ok x
answer_of (Err why) = Err (Bad why)

-- ---- one by one

-- an item in front of those after it, or the first refusal
abbrev pub in_front : {X E : Type 0} → Result X E → Result (List X) E → Result (List X) E
in_front (Err why) rest = Err why
in_front (Ok x) (Err why) = Err why
in_front (Ok x) (Ok xs) = Ok (x ∷ xs)

-- what the values read as, each with its number, from i on; or the first refusal
abbrev pub read_each : {A X E : Type 0} → (ℕ → A → Result X E) → ℕ → List A → Result (List X) E
read_each read i [] = Ok []
read_each read i (a ∷ more) = in_front (read i a) (read_each read (i + 1) more)

-- at most 1,024 rows or keys, read one by one
abbrev pub read_batch : {A X : Type 0} → (ℕ → A → Result X BatchRefused) → List A → Result (List X) BatchRefused
read_batch read values = if nat_lt max_batch (length values) then Err (too_many (length values)) else read_each read 0 values

-- ---- one row

-- a name is a column's
abbrev pub names_column : List Column → List ℕ → Bool
names_column columns name = is_some (position (λ c. bytes_eq c.name name) columns)

-- a cell that was read is set
abbrev pub set_read : Result Cell RowCause → Result PatchCell RowCause
set_read (Err why) = Err why
set_read (Ok c) = Ok (Set c)

-- what a row does to column i, from what was read there
abbrev pub placed : Keeping → ℕ → ℕ → Result PatchCell RowCause → Result PatchCell BatchRefused
placed keeping row i (Err why) = Err (refused why row i)
placed keeping row i (Ok p) = if is_key_column keeping i && sets_nothing p then Err (without_key row) else Ok p

-- the patch of a row, from what is read in each column
abbrev pub read_patch : SchemaData → ℕ → (Column → Result PatchCell RowCause) → Result (List PatchCell) BatchRefused
read_patch schema row read = read_each (λ i c. placed schema.keeping row i (read c)) 0 schema.columns

-- ---- one key

-- a key of the index column, which is column i
abbrev pub placed_key : ℕ → ℕ → Result Cell RowCause → Result Cell BatchRefused
placed_key row i (Err why) = Err (refused why row i)
placed_key row i (Ok c) = if is_null c then Err (without_key row) else Ok c
