-- Rows that come and go in a group, and what a group holds of them.
use Rattle.std.specs.Prelude.{◌≡◌, ℕ, ◌<◌, List, ◌∷◌, ◌++◌, map, length, All, false, ◌≤◌}
use Rattle.plain_data.specs.Sorting.{insert_by}
use Rattle.cell_core.specs.Cells.{same_cell}
use Rattle.cell_core.specs.Limits.{max_rows}
use Rattle.cell_core.specs.declared.cell.Cell.{Cell}
use Rattle.row_batch.specs.Batches.{without}
use Rattle.row_batch.specs.declared.batch.Pair.{Pair}
use Rattle.plan_types.specs.declared.plan.Named.{Named}
use Rattle.agg_core.specs.Any.{any_name, any_stands}
use Rattle.agg_core.specs.Types.{IsTaken}
use Rattle.view_spec.specs.Filters.{cell_in}
use Rattle.view_spec.specs.Kept.{by_key}
use Rattle.pivot_tree.specs.declared.group.Group.{Group}
use Rattle.pivot_tree.specs.declared.column.ColumnAggregate.{ColumnAggregate}

-- ---- rows

-- no row has the key
abbrev pub IsApart : Cell → List Pair → Type 0
IsApart key rows = All (λ q. same_cell key q.key ≡ false) rows

-- the row stands among the others, and no other has its key
pub record HasRow (rows : List Pair) (p : Pair) : Type 0 where
  pub before : List Pair
  pub behind : List Pair
  pub is : rows ≡ before ++ p ∷ behind
  pub apart_before : IsApart p.key before
  pub apart_behind : IsApart p.key behind

-- the row at its place in the order of keys
abbrev pub with_row : List Pair → Pair → List Pair
with_row rows p = insert_by by_key p rows

abbrev pub without_row : List Pair → Pair → List Pair
without_row rows p = without (same_cell p.key) rows

-- ---- cells of a column

abbrev pub cells_in : ℕ → List Pair → List Cell
cells_in column rows = map (λ p. cell_in p.row column) rows

abbrev pub pairs_in : ℕ → List Pair → List (Cell × Cell)
pairs_in column rows = map (λ p. (p.key, cell_in p.row column)) rows

-- ---- aggregates of columns

abbrev pub named_of : ColumnAggregate → Named
named_of h = record { column = h.column; aggregate = any_name h.aggregate }

abbrev pub Holds : List Pair → ColumnAggregate → Type 0
Holds rows h = any_stands h.aggregate (pairs_in h.column rows)

abbrev pub Takes : Pair → Named → Type 0
Takes p u = IsTaken u.aggregate (cell_in p.row u.column)

-- the row's key isn't there, there is room, and its cell is one that the aggregate takes
pub record CanHold (u : Named) (rows : List Pair) (p : Pair) : Type 0 where
  pub absent : IsApart p.key rows
  pub room : length rows < max_rows
  pub taken : Takes p u

-- ---- a group

abbrev pub names_of : List ColumnAggregate → List Named
names_of aggregates = map named_of aggregates

-- the row's key isn't there, there is room, and its cells are ones that the aggregates take
pub record CanPut (used : List Named) (rows : List Pair) (p : Pair) : Type 0 where
  pub absent : IsApart p.key rows
  pub room : length rows < max_rows
  pub taken : All (Takes p) used

-- the group has these rows, and the aggregates of these columns over them
pub record IsGroupOf (used : List Named) (g : Group) (rows : List Pair) : Type 0 where
  pub count : g.rows ≡ length rows
  pub few : length rows ≤ max_rows
  pub names : names_of g.aggregates.items ≡ used
  pub each : All (Holds rows) g.aggregates.items
