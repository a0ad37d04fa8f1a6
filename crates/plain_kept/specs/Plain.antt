-- What a view that is computed anew has, and what it stands for.
use Rattle.std.specs.Prelude.{◌≡◌, ℕ, List, map}
use Rattle.cell_core.specs.declared.schema.Column.{Column}
use Rattle.row_batch.specs.declared.change.RowChange.{RowChange}
use Rattle.plan_types.specs.declared.plan.Plan.{Plan}
use Rattle.table_core.specs.Tables.{TableData}
use Rattle.view_types.specs.declared.shown.Shown.{Shown}
use Rattle.view_spec.specs.Laws.{HasKeys}
use Rattle.view_spec.specs.Openings.{Opening}
use Rattle.view_spec.specs.Views.{Side, placed, view}
use Rattle.view_kept.specs.Parts.{shown_by_parts}
use Rattle.plain_kept.specs.Plans.{IsViewPlan}
use Rattle.plain_kept.specs.declared.keyed.KeyedView.{KeyedView}

-- the table's columns, the plan and the opening that it is a view by, and what it shows
pub record PlainData : Type 0 where
  pub columns : List Column
  pub plan : Plan
  pub opening : Opening
  pub shown : KeyedView

abbrev pub shown_of : PlainData → Shown
shown_of v = record { header = v.shown.header; rows = map (λ p. p.row) v.shown.rows }

-- the columns, the plan and the opening are the side's, and the header and the placed rows are those of its view
pub record StandsPlain (v : PlainData) (s : Side) : Type 0 where
  pub columns : v.columns ≡ s.columns
  pub plan : v.plan ≡ s.plan
  pub opening : v.opening ≡ s.opening
  pub fits : IsViewPlan s.columns s.plan
  pub header : v.shown.header ≡ (view s).header
  pub rows : v.shown.rows ≡ placed s

abbrev pub fits_plain : PlainData → Plan → TableData → Type 0
fits_plain v plan table = IsViewPlan table.schema.columns plan

-- a step may count any visits
abbrev pub counts_plain : PlainData → List RowChange → TableData → ℕ → ℕ → Type 0
counts_plain v changes table before after = Unit {0}

pub shows_plain : (v : PlainData) (s : Side) → StandsPlain v s → HasKeys s → shown_of v ≡ view s
shows_plain v s h keys = shown_by_parts (shown_of v) (view s) h.header (λ i. map (λ p. p.row) (h.rows i))
