-- A step of a live view with groups, as its walk over the groups meets it.
use Rattle.std.specs.Prelude.{◌≡◌, ◌≢◌, ◌⊎◌, List, false, Option, None, option_map}
use Rattle.cell_core.specs.declared.cell.Cell.{Cell}
use Rattle.row_batch.specs.declared.batch.Pair.{Pair}
use Rattle.row_batch.specs.declared.change.RowChange.{RowChange}
use Rattle.place_order.specs.declared.rank.Rank.{Rank}
use Rattle.table_core.specs.Tables.{TableData}
use Rattle.view_types.specs.declared.key.ViewKey.{ViewKey}
use Rattle.view_types.specs.declared.key.ViewKey.TheVariants.{Group}
use Rattle.delta_core.specs.KeySets.{is_among}
use Rattle.view_spec.specs.Columns.{is_flat}
use Rattle.view_spec.specs.Entries.{entry}
use Rattle.view_spec.specs.Kept.{kept}
use Rattle.view_spec.specs.Members.{splits}
use Rattle.view_spec.specs.Steps.{PassesGroup, ShowsCount, ShowsNoCount}
use Rattle.view_spec.specs.Views.{Side}
use Rattle.view_spec.specs.declared.placed.PlacedRow.{PlacedRow}
use Rattle.view_kept.specs.Steps.{IsStep}
use Rattle.group_walk.specs.Walks.{AreMet, is_told}
use Rattle.pivot_live.specs.Affected.{affected}

-- the walk knows where each group stood; and the split paths stay, or make no difference to cells
pub record KnowsPlaces (s : Side) (rows : List Pair) (before : List Cell → Option (List Rank)) : Type 0 where
  pub places : (q : List Cell) → before q ≡ option_map (λ p. p.place) (entry s (Group q))
  pub cells : (splits s.plan rows ≡ splits s.plan (kept s.plan s.pairs)) ⊎ ShowsNoCount s.columns s.plan

-- a count is shown, and split paths came or went
pub record ReachesAll (s : Side) (rows : List Pair) : Type 0 where
  pub count : ShowsCount s.columns s.plan
  pub differ : splits s.plan rows ≢ splits s.plan (kept s.plan s.pairs)

-- the groups are walked over that the changes reach: those with which a told path begins, and those that moved or stand
-- below one that moved; or all, where the walk takes each for moved
pub record IsWalkedStep (s : Side) (changes : List RowChange) (table : TableData) (told : List (List Cell)) (before : List Cell → Option (List Rank)) (shown : List PlacedRow) (keys : List ViewKey) : Type 0 where
  pub grouped : is_flat s.plan ≡ false
  pub step : IsStep s changes table
  pub passes : (q : List Cell) → is_told told q ≡ false → PassesGroup s changes q
  pub places : KnowsPlaces s (kept s.plan table.store.pairs) before ⊎ ((q : List Cell) → before q ≡ None)
  pub met : AreMet s.columns s.plan s.opening (kept s.plan table.store.pairs) told before shown
  pub among : (k : ViewKey) → is_among keys k ≡ affected told shown k
