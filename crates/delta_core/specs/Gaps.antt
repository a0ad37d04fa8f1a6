-- Rows of which there may be so many, and a row more among them.
use Rattle.std.specs.Prelude.{ℕ, List, ◌∷◌, ◌++◌, take, drop}
use Rattle.view_types.specs.declared.shown.ShownRow.{ShownRow}

pub record GapRows : Type 0 where
  pub rows : List ShownRow
  pub capacity : ℕ

abbrev pub put_at : GapRows → ℕ → ShownRow → GapRows
put_at b position row = record { rows = take position b.rows ++ row ∷ drop position b.rows; capacity = b.capacity }
