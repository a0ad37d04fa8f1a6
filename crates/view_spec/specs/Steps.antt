-- Steps of a view from some rows to the rows after changes, and the groups that they pass by.
use Rattle.std.specs.Prelude.{◌≡◌, Bool, true, false, ◌&&◌, List, All, IfSome}
use Rattle.std.specs.List.{list_any}
use Rattle.cell_core.specs.declared.cell.Cell.{Cell}
use Rattle.cell_core.specs.declared.schema.Column.{Column}
use Rattle.row_batch.specs.Batches.{pair_of}
use Rattle.row_batch.specs.Changes.{changed_all}
use Rattle.row_batch.specs.declared.batch.Pair.{Pair}
use Rattle.row_batch.specs.declared.change.RowChange.{RowChange}
use Rattle.plan_types.specs.declared.aggregate.AggName.{AggName}
use Rattle.plan_types.specs.declared.aggregate.AggName.TheVariants as name
use Rattle.plan_types.specs.declared.plan.Plan.{Plan}
use Rattle.view_spec.specs.Columns.{aggregate_at}
use Rattle.view_spec.specs.Kept.{full_pair, is_kept, kept}
use Rattle.view_spec.specs.Members.{is_member}
use Rattle.view_spec.specs.Paths.{prefixes}
use Rattle.view_spec.specs.Places.{group_ranks}
use Rattle.view_spec.specs.Views.{Side}

-- ---- the rows that count in a group

-- the row is kept, and its group cells begin with the path
abbrev pub counts_in : Plan → List Cell → Pair → Bool
counts_in plan path p = is_kept plan (full_pair plan p) && is_member plan path (full_pair plan p)

-- neither the old nor the new row passes
pub record PassesBy (t : Pair → Bool) (change : RowChange) : Type 0 where
  pub old : IfSome change.old (λ row. t (pair_of change.key row) ≡ false)
  pub new : IfSome change.new (λ row. t (pair_of change.key row) ≡ false)

-- ---- a step

abbrev pub changed_side : Side → List RowChange → Side
changed_side s changes = record s { pairs = changed_all s.pairs changes }

-- no changed row counts in the group, before or after the change
abbrev pub PassesGroup : Side → List RowChange → List Cell → Type 0
PassesGroup s changes q = All (PassesBy (counts_in s.plan q)) changes

-- each group on the way to a path keeps its sort ranks
abbrev pub KeepsRanks : Side → List RowChange → List Cell → Type 0
KeepsRanks s changes path =
    All (λ r. group_ranks s.columns s.plan (kept s.plan (changed_side s changes).pairs) r ≡ group_ranks s.columns s.plan (kept s.plan s.pairs) r) (prefixes path)

-- ---- counts

-- the aggregates that are 0 and not null where there are no rows
abbrev pub counts_rows : AggName → Bool
counts_rows name.Count = true
counts_rows name.DistinctCount = true
counts_rows other = false

-- no shown column is a count
abbrev pub ShowsNoCount : List Column → Plan → Type 0
ShowsNoCount columns plan = All (λ i. counts_rows (aggregate_at columns plan i) ≡ false) plan.columns

-- some shown column is a count
abbrev pub ShowsCount : List Column → Plan → Type 0
ShowsCount columns plan = list_any (λ i. counts_rows (aggregate_at columns plan i)) plan.columns ≡ true
