-- The rows that a live flat view keeps, and how many of them have each split path.
use Rattle.std.specs.Prelude.{◌≡◌, ℕ, zero, suc, List, [], ◌∷◌, Bool, false, Option, Some, None, is_some}
use Rattle.std.specs.List.{count_by}
use Rattle.std.specs.Map.{lookup}
use Rattle.cell_core.specs.declared.cell.Cell.{Cell}
use Rattle.place_order.specs.declared.rank.Rank.{Rank}
use Rattle.view_spec.specs.Paths.{same_path}
use Rattle.live_list.specs.declared.list.LiveRow.{LiveRow}
use Rattle.flat_live.specs.declared.rows.FlatCells.{FlatCells}

-- a place, a key, the split cells and the cells of the shown columns
abbrev pub FlatRow : Type 0
FlatRow = List Rank × LiveRow FlatCells

abbrev pub has_split : List Cell → FlatRow → Bool
has_split path e = same_path path e.1.value.split

-- none where there are none
abbrev pub some_rows : ℕ → Option ℕ
some_rows zero = None
some_rows (suc n) = Some (suc n)

-- nothing is counted under the empty path, which every row has where nothing is split
abbrev pub count_under : List Cell → List FlatRow → Option ℕ
count_under [] rows = None
count_under (c ∷ cs) rows = some_rows (count_by (has_split (c ∷ cs)) rows)

abbrev pub is_counted : List FlatRow → List Cell → Bool
is_counted rows path = is_some (count_under path rows)

-- how many rows have each split path
pub record AreCounted (rows : List FlatRow) (counts : List (List Cell × ℕ)) : Type 0 where
  pub told : (path : List Cell) → lookup (same_path path) counts ≡ count_under path rows

-- where nothing is noted, nothing was before, and no split path came or went
pub record NotesSplits (was now : Bool) (first last : List FlatRow) : Type 0 where
  pub before : now ≡ false → was ≡ false
  pub same : now ≡ false → (path : List Cell) → is_counted first path ≡ is_counted last path
