-- Steps of a table, as its views meet them.
use Rattle.std.specs.Prelude.{◌≡◌, List, IsPermutation}
use Rattle.row_batch.specs.Changes.{FitRows, changed_all}
use Rattle.row_batch.specs.declared.change.RowChange.{RowChange}
use Rattle.table_core.specs.Tables.{TableData}
use Rattle.view_types.specs.declared.key.ViewKey.{ViewKey}
use Rattle.delta_core.specs.Deltas.{marked}
use Rattle.delta_core.specs.declared.touched.Touch.{Touch}
use Rattle.plan_types.specs.declared.plan.Plan.{Plan}
use Rattle.view_spec.specs.Laws.{HasKeys}
use Rattle.view_spec.specs.Openings.{Opening}
use Rattle.view_spec.specs.Touching.{touched}
use Rattle.view_spec.specs.Views.{Side, view}

-- the view of a table's rows
abbrev pub side_of : Plan → Opening → TableData → Side
side_of plan opening table = record { columns = table.schema.columns; plan = plan; opening = opening; pairs = table.store.pairs }

-- the changes fit the rows that a view was computed from, and lead to those of the table, in some order
pub record IsStep (s : Side) (changes : List RowChange) (table : TableData) : Type 0 where
  pub keys : HasKeys s
  pub columns : table.schema.columns ≡ s.columns
  pub fit : FitRows s.pairs changes
  pub lead : IsPermutation (changed_all s.pairs changes) table.store.pairs

-- the view was computed from the table's rows, in some order
pub record IsOfTable (s : Side) (table : TableData) : Type 0 where
  pub keys : HasKeys s
  pub columns : table.schema.columns ≡ s.columns
  pub rows : IsPermutation s.pairs table.store.pairs

-- the same view of the table's rows as they are now
abbrev pub side_at : Side → TableData → Side
side_at s table = side_of s.plan s.opening table

-- the keys that differ between two sides, each beside whether the first shows it
abbrev pub touched_between : Side → Side → List (ViewKey × Touch)
touched_between a b = marked (view a).rows (touched a b)
