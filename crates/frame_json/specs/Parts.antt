-- The values of a group's path: the cell that a JSON value is, in the path of a request and in the key of a reply.
use Rattle.std.specs.Prelude.{ℕ, ◌+◌, ℤ, List, [], ◌∷◌, codes, Bool, nat_le, if◌then◌else◌, Option, Some, None, option_map, option_and_then}
use Rattle.std.specs.Str.{bytes_eq}
use Rattle.serde_json.specs.Data.{Data, null, boolean, number, string, array, object, Items, no_items, item}
use Rattle.serde_json.specs.Find.{as_number, as_str, as_array, as_i64}
use Rattle.cal_units.specs.Calendar.{is_moment}
use Rattle.cal_units.specs.DateText.{date_of}
use Rattle.cell_core.specs.Limits.{is_integer}
use Rattle.cell_core.specs.declared.cell.Cell.{Cell}
use Rattle.cell_core.specs.declared.cell.Cell.TheVariants as cell
use Rattle.frame_types.specs.Limits.{max_depth}

-- a whole number of 64 bits with a sign
abbrev pub whole_of : Data → Option ℤ
whole_of d = option_and_then as_i64 (as_number d)

abbrev pub if_meets : (ℤ → Bool) → ℤ → Option ℤ
if_meets test z = if test z then Some z else None

-- `["d","YYYY-MM-DD"]` and `["t",milliseconds]`
abbrev pub tagged_part : List ℕ → Data → Option Cell
tagged_part letter d =
    if bytes_eq letter (codes "d") then option_map cell.Date (option_and_then date_of (as_str d)) else
    (if bytes_eq letter (codes "t") then option_map cell.Moment (option_and_then (if_meets is_moment) (whole_of d)) else None)

abbrev pub pair_part : Items → Option Cell
pair_part no_items = None
pair_part (item a no_items) = None
pair_part (item a (item b no_items)) = option_and_then (λ letter. tagged_part letter b) (as_str a)
pair_part (item a (item b (item c ds))) = None

-- null, a boolean, a whole number, a string, a date or a datetime
abbrev pub part_of : Data → Option Cell
part_of null = Some cell.Null
part_of (boolean b) = Some (cell.Bool b)
part_of (number n) = option_map cell.Int (option_and_then (if_meets is_integer) (as_i64 n))
part_of (string s) = Some (cell.Words s)
part_of (array ds) = pair_part ds
part_of (object ms) = None

abbrev pub parts_of : Items → Option (List Cell)
parts_of no_items = Some []
parts_of (item d ds) = option_and_then (λ c. option_map (λ cs. c ∷ cs) (parts_of ds)) (part_of d)

abbrev pub count_items : Items → ℕ
count_items no_items = 0
count_items (item d ds) = count_items ds + 1

-- a list of at most 8 parts
abbrev pub few_parts : Items → Option (List Cell)
few_parts ds = if nat_le (count_items ds) max_depth then parts_of ds else None

abbrev pub path_of : Data → Option (List Cell)
path_of d = option_and_then few_parts (as_array d)
