-- The members of an object, as the data that they stand for.
use Rattle.std.specs.Prelude.{ℕ, List, Option, Some, None, map}
use Rattle.std.specs.BTreeMap.{insert_entry}
use Rattle.std.specs.Cmp.Lexicographic.{slice_cmp}
use Rattle.std.specs.Ordering.{nat_cmp}
use Rattle.cell_core.specs.RawData.{RawMembers}
use Rattle.cell_core.specs.RawViews.{raw_view, members_of}
use Rattle.cell_core.specs.declared.raw.Raw.{Raw}

abbrev pub members_data : List (List ℕ × Raw) → RawMembers
members_data entries = members_of (map (λ m. (m.0, raw_view m.1)) entries)

-- the members with one under a name
abbrev pub with_entry : List (List ℕ × Raw) → List ℕ → Raw → List (List ℕ × Raw)
with_entry entries name value = insert_entry (slice_cmp nat_cmp) entries name value

-- the same where it is given
abbrev pub with_given : List (List ℕ × Raw) → List ℕ → Option Raw → List (List ℕ × Raw)
with_given entries name None = entries
with_given entries name (Some value) = with_entry entries name value
