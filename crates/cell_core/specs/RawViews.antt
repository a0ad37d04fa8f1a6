-- The data that a `Raw` stands for.
use Rattle.std.specs.Prelude.{ℕ, List, [], ◌∷◌}
use Rattle.cell_core.specs.RawData.{RawData, raw_null, raw_bool, raw_int, other_number, raw_words, raw_list, raw_map, RawItems, no_raw_items, raw_item, RawMembers, no_raw_members, raw_member}
use Rattle.cell_core.specs.declared.raw.Raw.{Raw}
use Rattle.cell_core.specs.declared.raw.RawList.{RawList}
use Rattle.cell_core.specs.declared.raw.RawMap.{RawMap}
use Rattle.cell_core.specs.declared.raw.Raw.TheFolds.{fold-Raw, fold-RawList, fold-RawMap}
use Rattle.cell_core.specs.declared.raw.Raw.TheOpen.{Raw-F, RawList-F, RawMap-F}

abbrev pub items_of : List RawData → RawItems
items_of [] = no_raw_items
items_of (d ∷ ds) = raw_item d (items_of ds)

abbrev pub members_of : List (List ℕ × RawData) → RawMembers
members_of [] = no_raw_members
members_of (m ∷ ms) = raw_member m.0 m.1 (members_of ms)

-- one level, with each value inside already seen as its data
abbrev pub view_step : Raw-F RawData RawItems RawMembers → RawData
view_step Raw-F.Null = raw_null
view_step (Raw-F.Bool b) = raw_bool b
view_step (Raw-F.Int n) = raw_int n
view_step Raw-F.OtherNumber = other_number
view_step (Raw-F.Words t) = raw_words t
view_step (Raw-F.List v) = raw_list v
view_step (Raw-F.Map m) = raw_map m

abbrev pub list_step : RawList-F RawData RawItems RawMembers → RawItems
list_step v = items_of v.items

abbrev pub map_step : RawMap-F RawData RawItems RawMembers → RawMembers
map_step m = members_of m.entries.entries

abbrev pub raw_view : Raw → RawData
raw_view = fold-Raw RawData RawItems RawMembers view_step list_step map_step

abbrev pub list_view : RawList → RawItems
list_view = fold-RawList RawData RawItems RawMembers view_step list_step map_step

abbrev pub map_view : RawMap → RawMembers
map_view = fold-RawMap RawData RawItems RawMembers view_step list_step map_step
