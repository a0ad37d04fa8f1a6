-- The groups that a walk meets, level by level, and the rows that are shown of them.
use Rattle.std.specs.Prelude.{◌≡◌, ◌+◌, ◌≤◌, ℕ, List, [], ◌∷◌, ◌++◌, All, Bool, true, false, ◌&&◌, Option, length, map, if◌then◌else◌}
use Rattle.std.specs.List.{IsDistinct, list_any}
use Rattle.std.specs.List.Sorted.{IsStrictlySortedBy}
use Rattle.cell_core.specs.Cells.{cell_order, same_cell}
use Rattle.cell_core.specs.declared.cell.Cell.{Cell}
use Rattle.cell_core.specs.declared.schema.Column.{Column}
use Rattle.place_order.specs.declared.rank.Rank.{Rank}
use Rattle.row_batch.specs.declared.batch.Pair.{Pair}
use Rattle.plan_types.specs.declared.plan.Plan.{Plan}
use Rattle.view_spec.specs.Entries.{is_there}
use Rattle.view_spec.specs.Members.{splits}
use Rattle.view_spec.specs.Openings.{Opening, mark_of}
use Rattle.view_spec.specs.Paths.{same_path}
use Rattle.view_spec.specs.Places.{place_of_group}
use Rattle.view_spec.specs.Views.{placed_group}
use Rattle.view_spec.specs.declared.placed.PlacedRow.{PlacedRow}
use Rattle.view_columns.specs.Headers.{each_under}
use Rattle.view_columns.specs.declared.headers.SplitColumns.{SplitColumns}
use Rattle.pivot_tree.specs.Trees.{IsTreeOf}
use Rattle.pivot_tree.specs.declared.tree.PivotTree.{PivotTree}
use Rattle.group_walk.specs.Walks.{is_moved, is_told}
use Rattle.group_walk.specs.declared.level.Ahead.{Ahead}

-- a tree of a plan's kept rows, and the shown columns under each of their split paths
pub record IsShape (columns : List Column) (plan : Plan) (split_columns : List SplitColumns) (tree : PivotTree) (rows : List Pair) : Type 0 where
  pub splits_are : split_columns ≡ each_under columns plan (splits plan rows)
  pub tree_is : IsTreeOf columns plan tree rows

-- ---- paths

-- these are the groups right below some others to which it goes on from those, each once
pub record AreBelow (on : List Cell → Cell → Bool) (above below : List (List Cell)) : Type 0 where
  pub each : (q : List Cell) (c : Cell) → list_any (same_path (q ++ c ∷ [])) below ≡ (list_any (same_path q) above && on q c)
  pub no_total : list_any (same_path []) below ≡ false
  pub distinct : IsDistinct same_path below

-- the values at which a walk looks below a group: all where the group moved, and else those that are told
abbrev pub looks_at : List Column → Plan → List Pair → List (List Cell) → (List Cell → Option (List Rank)) → List Cell → Cell → Bool
looks_at columns plan rows told before path c =
    if is_moved columns plan rows before path then is_there plan rows (path ++ c ∷ []) else is_told told (path ++ c ∷ [])

-- from a group that was met a walk looks at one right below it
abbrev pub looks_on : List Column → Plan → Opening → List Pair → List (List Cell) → (List Cell → Option (List Rank)) → List Cell → Cell → Bool
looks_on columns plan opening rows told before path c = mark_of plan opening path && looks_at columns plan rows told before path c

-- ---- groups ahead

abbrev pub path_ahead : Ahead → List Cell
path_ahead one = one.above.now ++ one.value ∷ []

-- beside the group stands the place of the one above it
abbrev pub IsBelowPlace : List Column → Plan → List Pair → Ahead → Type 0
IsBelowPlace columns plan rows one = one.place.now ≡ place_of_group columns plan rows one.above.now

-- groups right below a path come after some others
pub record AddsAhead (columns : List Column) (plan : Plan) (rows : List Pair) (path : List Cell) (asked : Cell → Bool) (old new : List Ahead) : Type 0 where
  pub values : List Cell
  pub added : map path_ahead new ≡ map path_ahead old ++ map (λ c. path ++ c ∷ []) values
  pub placed : All (IsBelowPlace columns plan rows) old → All (IsBelowPlace columns plan rows) new
  pub ascending : IsStrictlySortedBy cell_order values
  pub each : (c : Cell) → list_any (same_cell c) values ≡ asked c

-- these are the groups at which a walk looks right below some others
pub record AreAhead (columns : List Column) (plan : Plan) (opening : Opening) (rows : List Pair) (told : List (List Cell)) (before : List Cell → Option (List Rank)) (above : List (List Cell)) (ahead : List Ahead) : Type 0 where
  pub below : AreBelow (looks_on columns plan opening rows told before) above (map path_ahead ahead)
  pub placed : All (IsBelowPlace columns plan rows) ahead

-- ---- rows

-- these are the rows of groups right below some others
pub record AreRowsBelow (columns : List Column) (plan : Plan) (opening : Opening) (rows : List Pair) (on : List Cell → Cell → Bool) (above : List (List Cell)) (shown : List PlacedRow) : Type 0 where
  pub paths : List (List Cell)
  pub shown_are : shown ≡ map (placed_group columns plan opening rows) paths
  pub below : AreBelow on above paths

-- ---- visits

-- the counter rose by no more than the number of some groups right below some others to which it goes on, each once
pub record AreVisitsBelow (on : List Cell → Cell → Bool) (above : List (List Cell)) (start end : ℕ) : Type 0 where
  pub paths : List (List Cell)
  pub each : (q : List Cell) (c : Cell) → list_any (same_path (q ++ c ∷ [])) paths ≡ true → (list_any (same_path q) above && on q c) ≡ true
  pub no_total : list_any (same_path []) paths ≡ false
  pub distinct : IsDistinct same_path paths
  pub few : end ≤ start + length paths
