-- What a live flat view stands for.
use Rattle.std.specs.Prelude.{◌≡◌, ℕ, List, [], ◌∷◌, map, refl}
use Rattle.std.proofs.Common.{◌∙◌, ap}
use Rattle.view_spec.specs.declared.placed.PlacedRow.{PlacedRow}
use Rattle.row_batch.specs.declared.change.RowChange.{RowChange}
use Rattle.plan_types.specs.declared.plan.Plan.{Plan}
use Rattle.table_core.specs.Tables.{TableData}
use Rattle.view_types.specs.declared.shown.Shown.{Shown}
use Rattle.view_spec.specs.Laws.{HasKeys}
use Rattle.view_spec.specs.Views.{Side, placed, view}
use Rattle.view_columns.specs.Headers.{under}
use Rattle.flat_show.specs.Plans.{IsFlatPlan}
use Rattle.view_kept.specs.Parts.{shown_by_parts}
use Rattle.flat_live.specs.FlatRows.{FlatRow}
use Rattle.flat_live.specs.Rows.{Heads, IsKeptOf, as_placed, shown_row}
use Rattle.flat_live.specs.declared.live.FlatLive.{FlatLive}

abbrev pub flat_shown : FlatLive → Shown
flat_shown v = record { header = v.header; rows = map (shown_row (under v.columns v.plan)) v.rows }

-- the columns and the plan are the side's, the rows are those that the plan keeps of it, and what is shown of the header
-- and the rows is its view
pub record StandsFlat (v : FlatLive) (s : Side) : Type 0 where
  pub columns : v.columns ≡ s.columns
  pub plan : v.plan ≡ s.plan
  pub fits : IsFlatPlan s.columns s.plan
  pub header : v.header ≡ (view s).header
  pub kept : IsKeptOf s.plan s.pairs v.rows
  pub rows : map (as_placed (under s.columns s.plan)) v.rows ≡ placed s

abbrev pub fits_flat : FlatLive → Plan → TableData → Type 0
fits_flat v plan table = IsFlatPlan table.schema.columns plan

-- a step counts no visit
abbrev pub counts_flat : FlatLive → List RowChange → TableData → ℕ → ℕ → Type 0
counts_flat v changes table before after = after ≡ before

rows_through : (heads : Heads) (xs : List FlatRow) → map (shown_row heads) xs ≡ map (λ (p : PlacedRow). p.row) (map (as_placed heads) xs)
rows_through heads [] = refl
rows_through heads (x ∷ xs) = ap (λ rs. shown_row heads x ∷ rs) (rows_through heads xs)

pub shows_flat : (v : FlatLive) (s : Side) → StandsFlat v s → HasKeys s → flat_shown v ≡ view s
shows_flat v s h keys =
    shown_by_parts (flat_shown v) (view s) h.header
    ((λ i. map (shown_row (under (h.columns i) (h.plan i))) v.rows)
    ∙ rows_through (under s.columns s.plan) v.rows
    ∙ ap (map (λ (p : PlacedRow). p.row)) h.rows)
