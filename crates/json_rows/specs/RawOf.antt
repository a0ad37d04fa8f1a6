-- A JSON value as it is kept to be judged later.
use Rattle.std.specs.Prelude.{option_map, unwrap_or}
use Rattle.serde_json.specs.Data.{Num, Data, null, boolean, number, string, array, object, Items, no_items, item, Members, no_members, member}
use Rattle.serde_json.specs.Find.{as_i64}
use Rattle.cell_core.specs.RawData.{RawData, raw_null, raw_bool, raw_int, other_number, raw_words, raw_list, raw_map, RawItems, no_raw_items, raw_item, RawMembers, no_raw_members, raw_member}

-- a number is whole exactly where it reads as one of 64 bits with a sign
abbrev pub number_data : Num → RawData
number_data n = unwrap_or (option_map raw_int (as_i64 n)) other_number

-- the value, with its other numbers only marked
abbrev mutual
  pub raw_data : Data → RawData
  raw_data null = raw_null
  raw_data (boolean b) = raw_bool b
  raw_data (number n) = number_data n
  raw_data (string s) = raw_words s
  raw_data (array ds) = raw_list (items_data ds)
  raw_data (object ms) = raw_map (members_data ms)

  pub items_data : Items → RawItems
  items_data no_items = no_raw_items
  items_data (item d ds) = raw_item (raw_data d) (items_data ds)

  pub members_data : Members → RawMembers
  members_data no_members = no_raw_members
  members_data (member k d ms) = raw_member k (raw_data d) (members_data ms)
