-- Rows, read from a text of CSV.
use Rattle.std.specs.Prelude.{ℕ, ◌+◌, ◌==◌, List, [], ◌∷◌, ◌++◌, length, drop, codes, Bool, true, false, not, ◌&&◌, Option, Some, None, option_and_then, slice_get, position, Result, Ok, Err, if◌then◌else◌}
use Rattle.std.specs.Char.{is_ascii_digit}
use Rattle.std.specs.List.{list_all, list_any}
use Rattle.std.specs.Option.{option_or}
use Rattle.std.specs.Str.{bytes_eq}
use Rattle.std.specs.Str.Parse.{starts_with_minus, signed_digits_value}
use Rattle.csv.specs.Reading.{default_config, records, strip_bom}
use Rattle.cell_core.specs.Schemas.{SchemaData}
use Rattle.cell_core.specs.declared.cell.Cell.{Cell}
use Rattle.cell_core.specs.declared.cell.Cell.TheVariants.{Null, Bool as truth}
use Rattle.cell_core.specs.declared.cell.CellType.{CellType}
use Rattle.cell_core.specs.declared.cell.CellType.TheVariants.{Integer, Boolean, Date, Moment, Words}
use Rattle.cell_core.specs.declared.schema.Column.{Column}
use Rattle.cell_core.specs.declared.schema.Numbers.TheVariants.{One}
use Rattle.row_batch.specs.declared.batch.PatchCell.{PatchCell}
use Rattle.row_batch.specs.declared.batch.PatchCell.TheVariants.{Keep}
use Rattle.row_batch.specs.declared.refused.BatchRefused.{BatchRefused}
use Rattle.row_batch.specs.declared.refused.RowCause.{RowCause}
use Rattle.row_batch.specs.declared.refused.RowCause.TheVariants as cause
use Rattle.row_cells.specs.Cells.{integer_cell, millis_cell, date_cell, moment_cell, words_cell}
use Rattle.row_cells.specs.Rows.{of_whole, unless_refused, read_batch, names_column, set_read, read_patch}

-- ---- one field

-- decimal digits, at least one
abbrev pub is_digits : List ℕ → Bool
is_digits s = not (length s == 0) && list_all is_ascii_digit s

-- an optional `-` and digits
abbrev pub is_number : List ℕ → Bool
is_number s = if starts_with_minus s then is_digits (drop 1 s) else is_digits s

-- the integer, or the milliseconds, that digits write
abbrev pub integer_field : List ℕ → Result Cell RowCause
integer_field s = integer_cell (signed_digits_value 10 s)

abbrev pub millis_field : List ℕ → Result Cell RowCause
millis_field s = millis_cell (signed_digits_value 10 s)

-- `true` or `false`
abbrev pub boolean_field : List ℕ → Result Cell RowCause
boolean_field s =
    if bytes_eq s (codes "true") then Ok (truth true) else
    (if bytes_eq s (codes "false") then Ok (truth false) else Err cause.BadType)

-- a field that isn't empty, in a column of that type
abbrev pub typed_field : CellType → List ℕ → Result Cell RowCause
typed_field Integer s = if is_number s then integer_field s else Err cause.BadType
typed_field Boolean s = boolean_field s
typed_field Date s = date_cell s
typed_field Moment s = if is_number s then millis_field s else moment_cell s
typed_field Words s = words_cell s

-- an empty field is null
abbrev pub field_cell : CellType → List ℕ → Result Cell RowCause
field_cell kind s = if length s == 0 then Ok Null else typed_field kind s

-- ---- one row

-- the column keeps its cell where the header leaves it out
abbrev pub patch_field : CellType → Option (List ℕ) → Result PatchCell RowCause
patch_field kind None = Ok Keep
patch_field kind (Some s) = set_read (field_cell kind s)

-- the field under a name of the header
abbrev pub field_under : List (List ℕ) → List (List ℕ) → List ℕ → Option (List ℕ)
field_under names fields name = option_and_then (λ i. slice_get fields i) (position (λ other. bytes_eq other name) names)

-- what a record says of a column
abbrev pub field_of : List (List ℕ) → List (List ℕ) → Column → Result PatchCell RowCause
field_of names fields c = patch_field c.kind (field_under names fields c.name)

-- a record is a row
abbrev pub read_record : SchemaData → List (List ℕ) → ℕ → List (List ℕ) → Result (List PatchCell) BatchRefused
read_record schema names row fields = read_patch schema row (field_of names fields)

-- ---- the whole

-- each record has so many fields
abbrev pub are_even : ℕ → List (List (List ℕ)) → Bool
are_even n rows = list_all (λ fields. length fields == n) rows

-- the first name, from field i on, that stands earlier too
abbrev pub twice_from : List (List ℕ) → ℕ → List (List ℕ) → Option BatchRefused
twice_from before i [] = None
twice_from before i (name ∷ names) =
    if list_any (λ other. bytes_eq other name) before then Some (record { cause = cause.Twice; at = One i })
    else twice_from (before ++ name ∷ []) (i + 1) names

-- a name that is no column
abbrev pub unknown_in : List Column → List (List ℕ) → Option BatchRefused
unknown_in columns names = if list_all (names_column columns) names then None else Some (of_whole cause.Unknown)

-- the first cause against the header
abbrev pub header_fault : List Column → List (List ℕ) → Option BatchRefused
header_fault columns names = option_or (twice_from [] 0 names) (unknown_in columns names)

-- the first record names columns
abbrev pub read_records : SchemaData → List (List (List ℕ)) → Result (List (List PatchCell)) BatchRefused
read_records schema [] = Err (of_whole cause.Header)
read_records schema (names ∷ rows) =
    if are_even (length names) rows
    then unless_refused (header_fault schema.columns names) (read_batch (read_record schema names) rows)
    else Err (of_whole cause.Csv)

-- the records of a text as `csv` reads it with its defaults, after a byte order mark
abbrev pub read_csv : SchemaData → List ℕ → Result (List (List PatchCell)) BatchRefused
read_csv schema text = read_records schema (records default_config (strip_bom text))
