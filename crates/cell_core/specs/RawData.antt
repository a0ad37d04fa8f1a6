-- What a `Raw` is: a JSON value whose numbers, but for those that fit 64 bits with a sign, are only marked.
use Rattle.std.specs.Prelude.{ℕ, ℤ, Bool, List, Option, Some, None}
use Rattle.std.specs.Ordering.{nat_cmp, match_ordering}
use Rattle.std.specs.Cmp.Lexicographic.{slice_cmp}

mutual
  pub data RawData : Type 0 where
    raw_null : RawData
    raw_bool : Bool → RawData
    raw_int : ℤ → RawData
    other_number : RawData
    raw_words : List ℕ → RawData
    raw_list : RawItems → RawData
    raw_map : RawMembers → RawData

  pub data RawItems : Type 0 where
    no_raw_items : RawItems
    raw_item : RawData → RawItems → RawItems

  pub data RawMembers : Type 0 where
    no_raw_members : RawMembers
    raw_member : List ℕ → RawData → RawMembers → RawMembers

-- the value under a name
abbrev pub get_raw : List ℕ → RawMembers → Option RawData
get_raw k no_raw_members = None
get_raw k (raw_member l e ms) = match_ordering (slice_cmp nat_cmp k l) (get_raw k ms) (Some e) (get_raw k ms)
