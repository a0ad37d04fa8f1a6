-- Rows that are kept whole: what a row that comes or goes makes of them.
use Rattle.std.proofs.Common.{◌≡◌, List, Some, ap, ◌∙◌}
use Rattle.cell_core.specs.declared.cell.Cell.{Cell}
use Rattle.plan_types.specs.declared.aggregate.AggName.{AggName}
use Rattle.agg_core.specs.Pairs.{cell_at, with_pair, without_key}
use Rattle.agg_core.specs.Rows.{AreRowsOf}
use Rattle.agg_core.specs.Standing.{CanAdd}
use Rattle.agg_core.proofs.PairLists.{ArePairs-with_pair, ArePairs-without_key}

pub AreRowsOf-with_pair : (name : AggName) (old new : List (Cell × Cell)) (key c : Cell) → new ≡ with_pair old key c
    → (pairs : List (Cell × Cell)) → AreRowsOf name old pairs → CanAdd name pairs key c → AreRowsOf name new (with_pair pairs key c)
AreRowsOf-with_pair name old new key c is pairs rows can = record {
  are_pairs = ArePairs-with_pair name pairs key c rows.are_pairs can;
  rows_are = is ∙ ap (λ z. with_pair z key c) rows.rows_are;
}

pub AreRowsOf-without_key : (name : AggName) (old new : List (Cell × Cell)) (key c : Cell) → new ≡ without_key old key
    → (pairs : List (Cell × Cell)) → AreRowsOf name old pairs → cell_at pairs key ≡ Some c → AreRowsOf name new (without_key pairs key)
AreRowsOf-without_key name old new key c is pairs rows there = record {
  are_pairs = ArePairs-without_key name pairs key c rows.are_pairs there;
  rows_are = is ∙ ap (λ z. without_key z key) rows.rows_are;
}
