-- What a step leaves of a live flat view.
use Rattle.std.proofs.Common.{◌≡◌, Bool, false, List, sym, ◌∙◌, ap, subst}
use Rattle.std.specs.Prelude.{not}
use Rattle.std.specs.List.Sorted.{IsStrictlySortedBy}
use Rattle.std.specs.Map.{keys_of, lookup}
use Rattle.cell_core.specs.declared.schema.Column.{Column}
use Rattle.row_batch.specs.declared.change.RowChange.{RowChange}
use Rattle.table_core.specs.Tables.{TableData}
use Rattle.view_types.specs.Keys.{key_order, same_key}
use Rattle.view_types.specs.Same.{same_header}
use Rattle.view_types.specs.declared.key.ViewKey.{ViewKey}
use Rattle.view_types.specs.declared.shown.HeaderColumn.{HeaderColumn}
use Rattle.delta_core.specs.Rows.{at_key}
use Rattle.delta_core.specs.declared.touched.Touch.{Touch}
use Rattle.view_columns.specs.Headers.{under}
use Rattle.view_spec.specs.Cells.{header_of}
use Rattle.view_spec.specs.Kept.{kept}
use Rattle.view_spec.specs.Members.{splits}
use Rattle.view_spec.specs.Touching.{head_touched}
use Rattle.view_spec.specs.Views.{Side, view}
use Rattle.view_kept.proofs.StepLaws.{header_between}
use Rattle.view_kept.specs.Steps.{IsStep, side_at, touched_between}
use Rattle.flat_show.specs.Plans.{IsFlatPlan}
use Rattle.live_list.specs.Live.{IsLive, live_key}
use Rattle.flat_live.specs.Flat.{StandsFlat}
use Rattle.flat_live.specs.FlatRows.{FlatRow, NotesSplits}
use Rattle.flat_live.specs.Rows.{IsKeptOf, settled, told}
use Rattle.flat_live.specs.declared.live.FlatLive.{FlatLive}
use Rattle.flat_live.proofs.Splits.{AreKeptRows, splits_stay}
use Rattle.flat_live.proofs.Steps.{kept_at, keys_at, keys_between, placed_kept}

-- the rows were settled
pub record Settles (v : FlatLive) (rows : List FlatRow) (cs : List RowChange) : Type 0 where
  pub first : IsLive v.rows
  pub last : IsLive rows
  pub each : (k : ViewKey) → at_key live_key k rows ≡ settled v.plan v.rows cs k

kept_side : (v : FlatLive) (s : Side) (rows : List FlatRow) (cs : List RowChange) (table : TableData) → StandsFlat v s → IsStep s cs table → Settles v rows cs → IsKeptOf s.plan table.store.pairs rows
kept_side v s rows cs table st step h = kept_at s v.rows rows cs table step st.kept (λ k. h.each k ∙ ap (λ p. settled p v.rows cs k) st.plan)

pub kept_now : (v : FlatLive) (s : Side) (rows : List FlatRow) (cs : List RowChange) (table : TableData) → StandsFlat v s → IsStep s cs table → Settles v rows cs → IsKeptOf v.plan table.store.pairs rows
kept_now v s rows cs table st step h = subst (λ p. IsKeptOf p table.store.pairs rows) (sym st.plan) (kept_side v s rows cs table st step h)

-- the header of the view after the step, by the columns and the plan that are kept
header_side : (v : FlatLive) (s : Side) (table : TableData) (columns : List Column) → StandsFlat v s → columns ≡ s.columns
    → header_of v.columns v.plan (splits v.plan (kept v.plan table.store.pairs)) ≡ header_of columns s.plan (splits s.plan (kept s.plan table.store.pairs))
header_side v s table columns st same =
    (λ i. header_of (st.columns i) (st.plan i) (splits (st.plan i) (kept (st.plan i) table.store.pairs)))
    ∙ ap (λ cs. header_of cs s.plan (splits s.plan (kept s.plan table.store.pairs))) (sym same)

-- it stays where no split path came or went
pub header_stays : (v : FlatLive) (s : Side) (rows : List FlatRow) (cs : List RowChange) (table : TableData) (was now : Bool) → StandsFlat v s → IsStep s cs table → Settles v rows cs → NotesSplits was now v.rows rows
    → now ≡ false → v.header ≡ header_of v.columns v.plan (splits v.plan (kept v.plan table.store.pairs))
header_stays v s rows cs table was now st step h notes none =
    let first : AreKeptRows s.plan s.pairs v.rows = record { keys = step.keys; differ = h.first.differ; kept = st.kept } in
    let last : AreKeptRows s.plan table.store.pairs rows = record { keys = keys_at s cs table step; differ = h.last.differ; kept = kept_side v s rows cs table st step h } in
    st.header
    ∙ ap (header_of s.columns s.plan) (splits_stay s.plan s.pairs table.store.pairs v.rows rows first last (notes.same none))
    ∙ sym (header_side v s table s.columns st (λ i. s.columns))

header_now : (v : FlatLive) (s : Side) (cs : List RowChange) (table : TableData) (header : List HeaderColumn) → StandsFlat v s → IsStep s cs table
    → header ≡ header_of v.columns v.plan (splits v.plan (kept v.plan table.store.pairs)) → header ≡ (view (side_at s table)).header
header_now v s cs table header st step is = is ∙ header_side v s table table.schema.columns st step.columns

pub stands_now : (v : FlatLive) (s : Side) (rows : List FlatRow) (cs : List RowChange) (table : TableData) (header : List HeaderColumn) → StandsFlat v s → IsStep s cs table → Settles v rows cs
    → header ≡ header_of v.columns v.plan (splits v.plan (kept v.plan table.store.pairs)) → StandsFlat (record { columns = v.columns; plan = v.plan; header = header; rows = rows }) (side_at s table)
stands_now v s rows cs table header st step h is = record {
  columns = st.columns ∙ sym step.columns;
  plan = st.plan;
  fits = subst (λ columns. IsFlatPlan columns s.plan) (sym step.columns) st.fits;
  header = header_now v s cs table header st step is;
  kept = kept_side v s rows cs table st step h;
  rows = placed_kept (side_at s table) rows st.fits.flat (keys_at s cs table step) h.last (kept_side v s rows cs table st step h);
}

pub keys_now : (v : FlatLive) (s : Side) (rows : List FlatRow) (cs : List RowChange) (table : TableData) (noted : List (ViewKey × Touch)) → StandsFlat v s → IsStep s cs table → Settles v rows cs
    → IsStrictlySortedBy key_order (keys_of noted)
    → ((q : ViewKey) → lookup (same_key q) noted ≡ told (under v.columns v.plan) (under v.columns v.plan) (at_key live_key q v.rows) (settled v.plan v.rows cs q))
    → noted ≡ touched_between s (side_at s table)
keys_now v s rows cs table noted st step h up each =
    keys_between s (side_at s table) v.rows rows noted st.fits.flat st.fits.flat step.keys (keys_at s cs table step) st.kept (kept_side v s rows cs table st step h) up
    (λ q. each q
    ∙ ap (told (under v.columns v.plan) (under v.columns v.plan) (at_key live_key q v.rows)) (sym (h.each q))
    ∙ (λ i. told (under (st.columns i) (st.plan i)) (under (st.columns i) (st.plan i)) (at_key live_key q v.rows) (at_key live_key q rows))
    ∙ ap (λ columns. told (under s.columns s.plan) (under columns s.plan) (at_key live_key q v.rows) (at_key live_key q rows)) (sym step.columns))

pub head_now : (v : FlatLive) (s : Side) (cs : List RowChange) (table : TableData) (header : List HeaderColumn) (moved : Bool) → StandsFlat v s → IsStep s cs table
    → header ≡ header_of v.columns v.plan (splits v.plan (kept v.plan table.store.pairs)) → moved ≡ not (same_header v.header header) → moved ≡ head_touched s (side_at s table)
head_now v s cs table header moved st step is told = header_between s (side_at s table) v.header header moved st.header (header_now v s cs table header st step is) told
