-- What a view's rows stand for, in whichever way they are kept.
use Rattle.std.specs.Prelude.{◌≡◌, ℕ, List}
use Rattle.row_batch.specs.declared.change.RowChange.{RowChange}
use Rattle.plan_types.specs.declared.plan.Plan.{Plan}
use Rattle.table_core.specs.Tables.{TableData}
use Rattle.view_types.specs.declared.shown.Shown.{Shown}
use Rattle.view_spec.specs.Laws.{HasKeys}
use Rattle.view_spec.specs.Views.{Side, view}
use Rattle.flat_live.specs.Flat.{StandsFlat, counts_flat, flat_shown, shows_flat}
use Rattle.plain_kept.specs.Plain.{StandsPlain, counts_plain, shown_of, shows_plain}
use Rattle.plain_kept.specs.Plans.{IsViewPlan}
use Rattle.live_rows.specs.declared.live.LiveRows.{LiveRows}
use Rattle.live_rows.specs.declared.live.LiveRows.TheVariants.{Flat, Plain}

abbrev pub live_shown : LiveRows → Shown
live_shown (Flat v) = flat_shown v
live_shown (Plain v) = shown_of v

abbrev pub StandsLive : LiveRows → Side → Type 0
StandsLive (Flat v) s = StandsFlat v s
StandsLive (Plain v) s = StandsPlain v s

-- it may become the other kind
abbrev pub fits_live : LiveRows → Plan → TableData → Type 0
fits_live v plan table = IsViewPlan table.schema.columns plan

abbrev pub counts_live : LiveRows → List RowChange → TableData → ℕ → ℕ → Type 0
counts_live (Flat v) changes table before after = counts_flat v changes table before after
counts_live (Plain v) changes table before after = counts_plain v changes table before after

pub shows_live : (v : LiveRows) (s : Side) → StandsLive v s → HasKeys s → live_shown v ≡ view s
shows_live (Flat v) s = shows_flat v s
shows_live (Plain v) s = shows_plain v s
