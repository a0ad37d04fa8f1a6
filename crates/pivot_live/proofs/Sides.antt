-- The side that a step leads to: its kept rows, the members of the groups that it passes by, and its entries.
use Rattle.std.proofs.Common.{◌≡◌, false, cond, ◌||◌, List, None, sym, ap, ◌∙◌}
use Rattle.std.specs.Prelude.{not}
use Rattle.plain_data.specs.Lists.{is_empty}
use Rattle.cell_core.specs.declared.cell.Cell.{Cell}
use Rattle.cell_core.specs.declared.schema.Column.{Column}
use Rattle.row_batch.specs.Changes.{changed_all}
use Rattle.row_batch.specs.declared.batch.Pair.{Pair}
use Rattle.row_batch.specs.declared.change.RowChange.{RowChange}
use Rattle.row_batch.proofs.ChangeLists.{distinct_changed_all}
use Rattle.row_batch.proofs.Steps.{distinct_reordered}
use Rattle.table_core.specs.Tables.{TableData}
use Rattle.plan_types.specs.declared.plan.Plan.{Plan}
use Rattle.view_types.specs.declared.key.ViewKey.TheVariants.{Row, Group}
use Rattle.view_spec.specs.Columns.{is_flat}
use Rattle.view_spec.specs.Entries.{entry, group_entry, is_there, row_entry, where_it}
use Rattle.view_spec.specs.Kept.{kept}
use Rattle.view_spec.specs.Laws.{HasKeys}
use Rattle.view_spec.specs.Members.{members}
use Rattle.view_spec.specs.Places.{group_ranks}
use Rattle.view_spec.specs.Steps.{PassesGroup, changed_side}
use Rattle.view_spec.specs.Views.{Side, placed, placed_group}
use Rattle.view_spec.proofs.KeptLaws.{kept-IsPermutation}
use Rattle.view_spec.proofs.LiveLaws.{placed-IsPermutation}
use Rattle.view_spec.proofs.LocalLaws.{members_stay, ranks-same}
use Rattle.view_spec.proofs.PathLaws.{any-members}
use Rattle.view_kept.specs.Steps.{IsStep, side_at}
use Rattle.group_walk.specs.Walks.{is_shown_path}

-- ---- any side of a view with groups

pub group_at : (s : Side) (q : List Cell) → is_flat s.plan ≡ false
    → entry s (Group q) ≡ where_it (is_shown_path s.plan s.opening (kept s.plan s.pairs) q) (placed_group s.columns s.plan s.opening (kept s.plan s.pairs) q)
group_at s q grouped = ap (λ b. cond b None (group_entry s q)) grouped

pub no_row_at : (s : Side) (key : Cell) → is_flat s.plan ≡ false → entry s (Row key) ≡ None
no_row_at s key grouped = ap (λ b. cond b (row_entry s key) None) grouped

pub there-same : (plan : Plan) (rows more : List Pair) (q : List Cell) → members plan more q ≡ members plan rows q → is_there plan more q ≡ is_there plan rows q
there-same plan rows more q same =
    ap (λ b. is_empty q || b) (any-members plan q more ∙ ap (λ ms. not (is_empty ms)) same ∙ sym (any-members plan q rows))

-- ---- a step

module _ (s : Side) (changes : List RowChange) (table : TableData) (step : IsStep s changes table) where
  abbrev was : List Pair
  was = kept s.plan s.pairs

  abbrev now : List Pair
  now = kept s.plan table.store.pairs

  pub keys_at : HasKeys (side_at s table)
  keys_at = distinct_reordered (changed_all s.pairs changes) table.store.pairs step.lead (distinct_changed_all s.pairs changes step.keys)

  -- the order of the table's rows does not matter
  pub kept_at : kept s.plan (changed_side s changes).pairs ≡ now
  kept_at = kept-IsPermutation s.plan (changed_all s.pairs changes) table.store.pairs (distinct_changed_all s.pairs changes step.keys) keys_at step.lead

  columns_same : (columns : List Column) → columns ≡ s.columns → let x : Side = record { columns = s.columns; plan = s.plan; opening = s.opening; pairs = table.store.pairs } in
      x ≡ record { columns = columns; plan = s.plan; opening = s.opening; pairs = table.store.pairs }
  columns_same columns h = λ i. record { columns = sym h i; plan = s.plan; opening = s.opening; pairs = table.store.pairs }

  pub placed_at : placed (changed_side s changes) ≡ placed (side_at s table)
  placed_at =
      placed-IsPermutation (changed_side s changes) table.store.pairs (distinct_changed_all s.pairs changes step.keys) keys_at step.lead
      ∙ ap placed (columns_same table.schema.columns step.columns)

  -- a group in which no changed row counts keeps its members, and its ranks
  pub members_at : (q : List Cell) → PassesGroup s changes q → members s.plan now q ≡ members s.plan was q
  members_at q by = ap (λ rows. members s.plan rows q) (sym kept_at) ∙ members_stay s changes q step.keys step.fit by

  pub ranks_at : (q : List Cell) → PassesGroup s changes q → group_ranks s.columns s.plan now q ≡ group_ranks s.columns s.plan was q
  ranks_at q by = ranks-same s.columns s.plan was now q (members_at q by)

  pub there_at : (q : List Cell) → PassesGroup s changes q → is_there s.plan now q ≡ is_there s.plan was q
  there_at q by = there-same s.plan was now q (members_at q by)

  pub group_after : (q : List Cell) → is_flat s.plan ≡ false → entry (side_at s table) (Group q) ≡ where_it (is_shown_path s.plan s.opening now q) (placed_group s.columns s.plan s.opening now q)
  group_after q grouped =
      group_at (side_at s table) q grouped
      ∙ ap (λ columns. where_it (is_shown_path s.plan s.opening now q) (placed_group columns s.plan s.opening now q)) step.columns
