-- Which groups a walk from the total downwards meets, and which it visits.
use Rattle.std.specs.Prelude.{◌≡◌, ◌+◌, ◌≤◌, ℕ, List, [], ◌∷◌, ◌++◌, All, Bool, true, false, not, ◌&&◌, ◌||◌, Option, Some, None, option_map, length, map}
use Rattle.std.specs.List.{IsDistinct, list_any}
use Rattle.std.specs.Ordering.{is_eq}
use Rattle.plain_data.specs.Lists.{is_empty}
use Rattle.cell_core.specs.declared.cell.Cell.{Cell}
use Rattle.cell_core.specs.declared.schema.Column.{Column}
use Rattle.place_order.specs.Places.{place_order}
use Rattle.place_order.specs.declared.rank.Rank.{Rank}
use Rattle.row_batch.specs.declared.batch.Pair.{Pair}
use Rattle.plan_types.specs.declared.plan.Plan.{Plan}
use Rattle.view_types.specs.declared.key.ViewKey.TheVariants.{Group}
use Rattle.delta_core.specs.Rows.{at_key}
use Rattle.view_spec.specs.Entries.{is_there}
use Rattle.view_spec.specs.Openings.{Opening, is_visible, mark_of}
use Rattle.view_spec.specs.Paths.{begins_with, same_path}
use Rattle.view_spec.specs.Places.{place_of_group}
use Rattle.view_spec.specs.Views.{placed_group}
use Rattle.view_spec.specs.declared.placed.PlacedRow.{PlacedRow}
use Rattle.live_list.specs.declared.list.LiveRow.{LiveRow}
use Rattle.live_list.specs.Live.{live_key}

-- ---- places as they were

-- the place at which a list has a group
abbrev pub place_in : {V : Type 0} → List (List Rank × LiveRow V) → List Cell → Option (List Rank)
place_in rows path = option_map (λ e. e.0) (at_key live_key (Group path) rows)

abbrev pub is_place : Option (List Rank) → List Rank → Bool
is_place None place = false
is_place (Some old) place = is_eq (place_order old place)

-- the group stood nowhere before, or at another place
abbrev pub is_moved : List Column → Plan → List Pair → (List Cell → Option (List Rank)) → List Cell → Bool
is_moved columns plan rows before path = not (is_place (before path) (place_of_group columns plan rows path))

-- ---- groups that a walk meets

-- the view has the group, and each group above it is open, so it is shown
abbrev pub is_shown_path : Plan → Opening → List Pair → List Cell → Bool
is_shown_path plan opening rows path = is_visible opening path && is_there plan rows path

-- some told path begins with it
abbrev pub is_told : List (List Cell) → List Cell → Bool
is_told told path = list_any (begins_with path) told

-- from a group that was met a walk goes on to one right below it
abbrev pub goes_on : List Column → Plan → Opening → List Pair → List (List Cell) → (List Cell → Option (List Rank)) → List Cell → Cell → Bool
goes_on columns plan opening rows told before path c =
    mark_of plan opening path && (is_there plan rows (path ++ c ∷ []) && (is_moved columns plan rows before path || is_told told (path ++ c ∷ [])))

-- these are the rows of the groups that are met: the total, and those to which the walk goes on
pub record AreMet (columns : List Column) (plan : Plan) (opening : Opening) (rows : List Pair) (told : List (List Cell)) (before : List Cell → Option (List Rank)) (shown : List PlacedRow) : Type 0 where
  pub paths : List (List Cell)
  pub shown_are : shown ≡ map (placed_group columns plan opening rows) paths
  pub distinct : IsDistinct same_path paths
  pub total : list_any (same_path []) paths ≡ true
  pub below : (q : List Cell) (c : Cell) → list_any (same_path (q ++ c ∷ [])) paths ≡ (list_any (same_path q) paths && goes_on columns plan opening rows told before q c)

-- ---- groups that a walk visits

-- the path without its last value
abbrev pub above : List Cell → List Cell
above [] = []
above (c ∷ []) = []
above (c ∷ d ∷ cs) = c ∷ above (d ∷ cs)

-- the total, a group with which a told path begins, and a shown one right below a group that moved
abbrev pub may_visit : List Column → Plan → Opening → List Pair → List (List Cell) → (List Cell → Option (List Rank)) → List Cell → Bool
may_visit columns plan opening rows told before path =
    is_empty path || (is_told told path || (is_shown_path plan opening rows path && is_moved columns plan rows before (above path)))

-- the counter rose by no more than the number of some such groups, each once
pub record AreVisits (columns : List Column) (plan : Plan) (opening : Opening) (rows : List Pair) (told : List (List Cell)) (before : List Cell → Option (List Rank)) (start end : ℕ) : Type 0 where
  pub paths : List (List Cell)
  pub distinct : IsDistinct same_path paths
  pub each : All (λ q. may_visit columns plan opening rows told before q ≡ true) paths
  pub few : end ≤ start + length paths
