-- The rows that are kept whole.
use Rattle.std.specs.Prelude.{◌≡◌, List}
use Rattle.cell_core.specs.declared.cell.Cell.{Cell}
use Rattle.plan_types.specs.declared.aggregate.AggName.{AggName}
use Rattle.plan_types.specs.declared.aggregate.AggName.TheVariants as name
use Rattle.agg_core.specs.Standing.{ArePairs}
use Rattle.agg_core.specs.declared.end_row.End.{End}
use Rattle.agg_core.specs.declared.end_row.End.TheVariants as end

-- the rows are the pairs
pub record AreRowsOf (name : AggName) (rows pairs : List (Cell × Cell)) : Type 0 where
  pub are_pairs : ArePairs name pairs
  pub rows_are : rows ≡ pairs

abbrev pub end_name : End → AggName
end_name end.First = name.First
end_name end.Last = name.Last
