-- A flat view shows the same under every opening.
use Rattle.std.proofs.Common.{◌≡◌, true, List, [], map, filter, sym, ap, ◌∙◌, subst, if◌then◌else◌}
use Rattle.std.specs.Prelude.{not}
use Rattle.plain_data.specs.Sorting.{sorted_by}
use Rattle.cell_core.specs.declared.schema.Column.{Column}
use Rattle.row_batch.specs.declared.batch.Pair.{Pair}
use Rattle.row_batch.proofs.Lookups.{same_from_permutation}
use Rattle.row_batch.proofs.Steps.{distinct_reordered}
use Rattle.plan_types.specs.declared.plan.Plan.{Plan}
use Rattle.table_core.specs.Tables.{TableData}
use Rattle.view_types.specs.Same.{same_header}
use Rattle.view_types.proofs.SameRows.{same_header_itself}
use Rattle.view_types.specs.declared.shown.Shown.{Shown}
use Rattle.delta_core.specs.Deltas.{marked}
use Rattle.view_spec.specs.Columns.{is_flat}
use Rattle.view_spec.specs.Kept.{kept}
use Rattle.view_spec.specs.Members.{paths}
use Rattle.view_spec.specs.Openings.{Opening, is_visible}
use Rattle.view_spec.specs.Touching.{head_touched, touched_keys}
use Rattle.view_spec.specs.Views.{Side, by_place, placed, placed_group, placed_row, view}
use Rattle.view_spec.proofs.LiveLaws.{placed-IsPermutation, view-IsPermutation}
use Rattle.view_spec.proofs.TouchLaws.{touched_keys-itself}
use Rattle.view_kept.specs.Steps.{IsOfTable, side_of, touched_between}
use Rattle.view_columns.specs.Headers.{under}
use Rattle.flat_live.specs.Flat.{StandsFlat}
use Rattle.flat_live.specs.Rows.{as_placed}
use Rattle.flat_show.specs.Plans.{IsFlatPlan}
use Rattle.flat_live.specs.declared.live.FlatLive.{FlatLive}
use Rattle.flat_live.proofs.Stands.{kept_reordered}

abbrev side_by : List Column → Plan → Opening → List Pair → Side
side_by columns plan opening pairs = record { columns = columns; plan = plan; opening = opening; pairs = pairs }

same_placed : (columns : List Column) (plan : Plan) (first last : Opening) (pairs : List Pair) → is_flat plan ≡ true → placed (side_by columns plan first pairs) ≡ placed (side_by columns plan last pairs)
same_placed columns plan first last pairs flat =
    let rows : List Pair = kept plan pairs in
    ap (λ b. sorted_by by_place (if b then map (placed_row columns plan) rows else map (placed_group columns plan first rows) (filter (is_visible first) (paths plan rows)))) flat
    ∙ sym (ap (λ b. sorted_by by_place (if b then map (placed_row columns plan) rows else map (placed_group columns plan last rows) (filter (is_visible last) (paths plan rows)))) flat)

-- the same rows in the table's order, under another opening
pub flat_placed : (s : Side) (opening : Opening) (t : TableData) → is_flat s.plan ≡ true → IsOfTable s t → placed s ≡ placed (side_of s.plan opening t)
flat_placed s opening t flat of =
    placed-IsPermutation s t.store.pairs of.keys (distinct_reordered s.pairs t.store.pairs of.rows of.keys) of.rows
    ∙ same_placed s.columns s.plan s.opening opening t.store.pairs flat ∙ ap (λ cs. placed (side_by cs s.plan opening t.store.pairs)) (sym of.columns)

pub flat_header : (s : Side) (opening : Opening) (t : TableData) → IsOfTable s t → (view s).header ≡ (view (side_of s.plan opening t)).header
flat_header s opening t of =
    ap (λ (x : Shown). x.header) (view-IsPermutation s t.store.pairs of.keys (distinct_reordered s.pairs t.store.pairs of.rows of.keys) of.rows)
    ∙ ap (λ cs. (view (side_by cs s.plan opening t.store.pairs)).header) (sym of.columns)

pub flat_stands : (v : FlatLive) (s : Side) (opening : Opening) (t : TableData) → StandsFlat v s → IsOfTable s t → StandsFlat v (side_of s.plan opening t)
flat_stands v s opening t h of = record {
  columns = h.columns ∙ sym of.columns;
  plan = h.plan;
  fits = subst (λ cs. IsFlatPlan cs s.plan) (sym of.columns) h.fits;
  header = h.header ∙ flat_header s opening t of;
  kept = kept_reordered s.plan s.pairs t.store.pairs v.rows (same_from_permutation s.pairs t.store.pairs of.keys (distinct_reordered s.pairs t.store.pairs of.rows of.keys) of.rows) h.kept;
  rows = ap (λ cs. map (as_placed (under cs s.plan)) v.rows) of.columns ∙ h.rows ∙ flat_placed s opening t h.fits.flat of;
}

-- so another opening touches nothing
pub flat_keys : (v : FlatLive) (s : Side) (opening : Opening) (t : TableData) → StandsFlat v s → IsOfTable s t → [] ≡ touched_between s (side_of s.plan opening t)
flat_keys v s opening t h of =
    sym (ap (λ ps. marked (view s).rows (touched_keys (placed s) ps)) (sym (flat_placed s opening t h.fits.flat of)) ∙ ap (marked (view s).rows) (touched_keys-itself (placed s)))

pub flat_head : (s : Side) (opening : Opening) (t : TableData) → IsOfTable s t → head_touched s (side_of s.plan opening t) ≡ head_touched s s
flat_head s opening t of = ap (λ h. not (same_header (view s).header h)) (sym (flat_header s opening t of))

pub no_head : (s : Side) → head_touched s s ≡ not true
no_head s = ap not (same_header_itself (view s).header)
