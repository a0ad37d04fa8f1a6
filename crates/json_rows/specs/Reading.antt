-- Rows and keys, read from a JSON value.
use Rattle.std.specs.Prelude.{ℕ, zero, suc, ◌+◌, ◌==◌, List, [], ◌∷◌, length, Bool, true, false, not, ◌&&◌, Option, Some, None, option_map, slice_index_or, Result, Ok, Err, if◌then◌else◌}
use Rattle.plain_data.specs.Faults.{first_fault}
use Rattle.cell_core.specs.RawData.{RawData, raw_null, raw_bool, raw_int, raw_words, raw_list, raw_map, RawItems, no_raw_items, raw_item, RawMembers, no_raw_members, raw_member, get_raw}
use Rattle.cell_core.specs.Schemas.{SchemaData}
use Rattle.cell_core.specs.declared.cell.Cell.{Cell}
use Rattle.cell_core.specs.declared.cell.Cell.TheVariants.{Null, Bool as truth}
use Rattle.cell_core.specs.declared.cell.CellType.{CellType}
use Rattle.cell_core.specs.declared.cell.CellType.TheVariants.{Integer, Boolean, Date, Moment, Words}
use Rattle.cell_core.specs.declared.schema.Column.{Column}
use Rattle.cell_core.specs.declared.schema.Keeping.{Keeping}
use Rattle.cell_core.specs.declared.schema.Keeping.TheVariants.{Indexed, Limited, Free}
use Rattle.row_batch.specs.Checks.{kind_at, without_key}
use Rattle.row_batch.specs.declared.batch.PatchCell.{PatchCell}
use Rattle.row_batch.specs.declared.batch.PatchCell.TheVariants.{Keep}
use Rattle.row_batch.specs.declared.refused.BatchRefused.{BatchRefused}
use Rattle.row_batch.specs.declared.refused.RowCause.{RowCause}
use Rattle.row_batch.specs.declared.refused.RowCause.TheVariants as cause
use Rattle.row_cells.specs.Cells.{integer_cell, millis_cell, date_cell, moment_cell, words_cell}
use Rattle.row_cells.specs.Rows.{of_whole, of_row, unless_refused, read_batch, names_column, set_read, read_patch, placed_key}

-- the items of a list
abbrev pub items_in : RawItems → List RawData
items_in no_raw_items = []
items_in (raw_item d ds) = d ∷ items_in ds

-- ---- one cell

-- the cell of a column of that type; null is a cell of every type
abbrev pub cell_of : CellType → RawData → Result Cell RowCause
cell_of kind raw_null = Ok Null
cell_of Integer (raw_int z) = integer_cell z
cell_of Boolean (raw_bool b) = Ok (truth b)
cell_of Date (raw_words s) = date_cell s
cell_of Moment (raw_int ms) = millis_cell ms
cell_of Moment (raw_words s) = moment_cell s
cell_of Words (raw_words s) = words_cell s
cell_of kind other = Err cause.BadType

-- ---- one row

-- the column keeps its cell where the row leaves it out
abbrev pub patch_cell_of : CellType → Option RawData → Result PatchCell RowCause
patch_cell_of kind None = Ok Keep
patch_cell_of kind (Some d) = set_read (cell_of kind d)

-- what a row says of a column
abbrev pub member_of : RawMembers → Column → Result PatchCell RowCause
member_of ms c = patch_cell_of c.kind (get_raw c.name ms)

-- every member is named by a column
abbrev pub names_columns : List Column → RawMembers → Bool
names_columns columns no_raw_members = true
names_columns columns (raw_member name d ms) = names_column columns name && names_columns columns ms

-- a row is an object of columns' names
abbrev pub read_row : SchemaData → ℕ → RawData → Result (List PatchCell) BatchRefused
read_row schema row (raw_map ms) =
    if names_columns schema.columns ms then read_patch schema row (member_of ms) else Err (of_row cause.Unknown row)
read_row schema row other = Err (of_row cause.Shape row)

-- ---- an object of lists

-- every member is a list
abbrev pub is_list : RawData → Bool
is_list (raw_list ds) = true
is_list other = false

abbrev pub are_lists : RawMembers → Bool
are_lists no_raw_members = true
are_lists (raw_member name d ms) = is_list d && are_lists ms

-- how many values a list has
abbrev pub list_len : RawData → ℕ
list_len (raw_list ds) = length (items_in ds)
list_len other = 0

-- each list has n values
abbrev pub have_len : ℕ → RawMembers → Bool
have_len n no_raw_members = true
have_len n (raw_member name d ms) = (list_len d == n) && have_len n ms

-- the length of the first list; with no list there are no rows
abbrev pub row_count : RawMembers → ℕ
row_count no_raw_members = 0
row_count (raw_member name d ms) = list_len d

-- the causes against the whole, in the order in which they are tested
abbrev pub lists_faults : List Column → RawMembers → List (Bool × BatchRefused)
lists_faults columns ms =
    (not (names_columns columns ms), of_whole cause.Unknown)
    ∷ (not (are_lists ms), of_whole cause.Shape)
    ∷ (not (have_len (row_count ms) ms), of_whole cause.Length)
    ∷ []

-- the value at place k of a list
abbrev pub value_at : ℕ → RawData → RawData
value_at k (raw_list ds) = slice_index_or (items_in ds) k raw_null
value_at k other = raw_null

-- row k across the lists
abbrev pub row_across : ℕ → RawMembers → RawMembers
row_across k no_raw_members = no_raw_members
row_across k (raw_member name d ms) = raw_member name (value_at k d) (row_across k ms)

-- so many rows across, from row k on
abbrev pub rows_across : RawMembers → ℕ → ℕ → List RawData
rows_across ms k zero = []
rows_across ms k (suc count) = raw_map (row_across k ms) ∷ rows_across ms (k + 1) count

-- an object of lists stands for the list of rows across
abbrev pub read_lists : SchemaData → RawMembers → Result (List (List PatchCell)) BatchRefused
read_lists schema ms =
    unless_refused (first_fault (lists_faults schema.columns ms)) (read_batch (read_row schema) (rows_across ms 0 (row_count ms)))

-- ---- rows

-- rows are a list of objects, or an object of lists
abbrev pub read_rows : SchemaData → RawData → Result (List (List PatchCell)) BatchRefused
read_rows schema (raw_list ds) = read_batch (read_row schema) (items_in ds)
read_rows schema (raw_map ms) = read_lists schema ms
read_rows schema other = Err (of_whole cause.Shape)

-- ---- keys

-- the number and the type of the index column
abbrev pub index_of : SchemaData → Option (ℕ × CellType)
index_of schema = at schema.keeping
  where
    at : Keeping → Option (ℕ × CellType)
    at (Indexed column) = option_map (λ kind. (column, kind)) (kind_at schema.columns column)
    at (Limited slots) = None
    at Free = None

-- a key is a cell of the index column; without one there is no key
abbrev pub read_key : Option (ℕ × CellType) → ℕ → RawData → Result Cell BatchRefused
read_key (Some index) row d = placed_key row index.0 (cell_of index.1 d)
read_key None row d = Err (without_key row)

-- keys are a list
abbrev pub read_keys : SchemaData → RawData → Result (List Cell) BatchRefused
read_keys schema (raw_list ds) = read_batch (read_key (index_of schema)) (items_in ds)
read_keys schema other = Err (of_whole cause.Shape)
