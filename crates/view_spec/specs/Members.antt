-- Groups of kept rows.
use Rattle.std.specs.Prelude.{ℕ, List, [], ◌∷◌, map, filter, Bool}
use Rattle.std.specs.List.{flat_map}
use Rattle.cell_core.specs.declared.cell.Cell.{Cell}
use Rattle.row_batch.specs.declared.batch.Pair.{Pair}
use Rattle.plan_types.specs.declared.plan.Plan.{Plan}
use Rattle.view_spec.specs.Filters.{cell_in}
use Rattle.view_spec.specs.Paths.{begins_with, same_path, prefixes, path_set}

-- a kept row's group cells and split cells
abbrev pub group_of : Plan → Pair → List Cell
group_of plan p = map (cell_in p.row) plan.group_by

abbrev pub split_of : Plan → Pair → List Cell
split_of plan p = map (cell_in p.row) plan.split_by

abbrev pub is_member : Plan → List Cell → Pair → Bool
is_member plan path p = begins_with path (group_of plan p)

-- the kept rows whose group cells begin with the path
abbrev pub members : Plan → List Pair → List Cell → List Pair
members plan rows path = filter (is_member plan path) rows

-- those of some rows whose split cells are these
abbrev pub within : Plan → List Cell → List Pair → List Pair
within plan split rows = filter (λ p. same_path split (split_of plan p)) rows

-- the empty path, and each that some kept row's group cells begin with
abbrev pub paths : Plan → List Pair → List (List Cell)
paths plan rows = path_set ([] ∷ flat_map (λ p. prefixes (group_of plan p)) rows)

abbrev pub splits_by : List ℕ → List (List Cell) → List (List Cell)
splits_by [] found = [] ∷ []
splits_by (c ∷ cs) found = found

-- the kept rows' split cells, ascending and without repeats; one empty list where nothing is split
abbrev pub splits : Plan → List Pair → List (List Cell)
splits plan rows = splits_by plan.split_by (path_set (map (split_of plan) rows))
