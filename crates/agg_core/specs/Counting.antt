-- What a count stands for.
use Rattle.std.specs.Prelude.{◌≡◌, ℕ, List, length}
use Rattle.cell_core.specs.declared.cell.Cell.{Cell}
use Rattle.plan_types.specs.declared.aggregate.AggName.TheVariants as name
use Rattle.agg_core.specs.Standing.{ArePairs}

-- the count is how many pairs there are
pub record IsCountOf (rows : ℕ) (pairs : List (Cell × Cell)) : Type 0 where
  pub are_pairs : ArePairs name.Count pairs
  pub count : rows ≡ length pairs
