-- The places at which rows are shown.
use Rattle.std.specs.Prelude.{ℕ, List, [], ◌∷◌, ◌++◌, map, Option}
use Rattle.value_core.specs.declared.value.Value.{Value}
use Rattle.agg_core.specs.Aggregates.{aggregate}
use Rattle.cell_core.specs.Cells.{value_of}
use Rattle.cell_core.specs.declared.cell.Cell.{Cell}
use Rattle.cell_core.specs.declared.cell.Direction.TheVariants as direction
use Rattle.cell_core.specs.declared.schema.Column.{Column}
use Rattle.row_batch.specs.declared.batch.Pair.{Pair}
use Rattle.plan_types.specs.declared.plan.Plan.{Plan}
use Rattle.place_order.specs.Places.{rank}
use Rattle.place_order.specs.declared.rank.Rank.{Rank}
use Rattle.place_order.specs.declared.rank.Rank.TheVariants.{Asc}
use Rattle.view_spec.specs.Filters.{cell_in}
use Rattle.view_spec.specs.Columns.{aggregate_at}
use Rattle.view_spec.specs.Members.{members}

-- the ranks of what a value gives for each sort's column
abbrev pub sort_ranks : Plan → (ℕ → Option Value) → List Rank
sort_ranks plan value_at = map (λ s. rank s.direction (value_at s.column)) plan.sorts

-- what a row or some rows show of a column
abbrev pub row_value : Pair → ℕ → Option Value
row_value p i = value_of (cell_in p.row i)

abbrev pub rows_value : List Column → Plan → List Pair → ℕ → Option Value
rows_value columns plan rows i = aggregate (aggregate_at columns plan i) (map (λ p. cell_in p.row i) rows)

-- a row's sort ranks, and then its key
abbrev pub place_of_row : Plan → Pair → List Rank
place_of_row plan p = sort_ranks plan (row_value p) ++ Asc (value_of p.key) ∷ []

-- at each level the ranks of what has been reached, and then its last value
abbrev pub levels : (List Cell → List Rank) → List Cell → List Cell → List Rank
levels ranks_at done [] = []
levels ranks_at done (c ∷ cs) = (ranks_at (done ++ c ∷ []) ++ Asc (value_of c) ∷ []) ++ levels ranks_at (done ++ c ∷ []) cs

-- the sort ranks of a group, by its members over all splits
abbrev pub group_ranks : List Column → Plan → List Pair → List Cell → List Rank
group_ranks columns plan rows path = sort_ranks plan (rows_value columns plan (members plan rows path))

abbrev pub place_of_group : List Column → Plan → List Pair → List Cell → List Rank
place_of_group columns plan rows path = levels (group_ranks columns plan rows) [] path
