use Rattle.std.proofs.Common.{◌≡◌, [], map, sym, ap, ◌∙◌, subst, List}
use Rattle.plain_data.specs.Distinct.{AreDistinct}
use Rattle.cell_core.specs.declared.schema.Column.{Column}
use Rattle.row_batch.specs.Tables.{keys_of_rows}
use Rattle.row_batch.specs.declared.batch.Pair.{Pair}
use Rattle.view_types.specs.Rows.{AreShownRows}
use Rattle.view_spec.specs.Openings.{Opening}
use Rattle.view_spec.specs.Views.{placed}
use Rattle.view_spec.specs.declared.placed.PlacedRow.{PlacedRow}
use Rattle.view_spec.proofs.FlatLaws.{kept_in_order, kept_in_order-distinct}
use Rattle.view_spec.proofs.LiveLaws.{shown_rows}
use Rattle.flat_show.specs.Entries.{entries_by_place}
use Rattle.view_kept.specs.Steps.{side_of}
use Rattle.flat_show.proofs.FlatShow.{header_shown, rows_placed}
use Rattle.flat_show.proofs.flat.show_placed.Goals as goal

pub placed_rows-requires : goal.placed_rows-requires
placed_rows-requires g c =
    let same : c.as_slice-2.result.now ≡ kept_in_order c.args.plan.now c.args.table.now.store.pairs = c.as_slice-2.ensures.value ∙ c.in_ok-kept.ensures in
    subst (λ (rs : List Pair). AreDistinct (keys_of_rows rs)) (sym same) (kept_in_order-distinct c.args.plan.now c.args.table.now.store.pairs c.len-table.ensures.table.distinct)

abbrev no_opening : Opening
no_opening = record { depth = 0; singles = [] }

pub from_listed-requires : goal.from_listed-requires
from_listed-requires g c =
    let s = side_of c.args.plan.now no_opening c.args.table.now in
    let same : c.as_slice-2.result.now ≡ kept_in_order c.args.plan.now c.args.table.now.store.pairs = c.as_slice-2.ensures.value ∙ c.in_ok-kept.ensures in
    let columns : c.schema-2.result.now.columns ≡ c.args.table.now.schema.columns = ap (λ s. s.columns) c.schema-2.ensures in
    let rows : c.from_vec.result ≡ placed s =
    c.from_vec.ensures ∙ c.in_ok-rows.ensures
    ∙ rows_placed s c.as_slice-2.result.now c.in_ok-by_place.by_place.entries c.requires.flat c.len-table.ensures.table.distinct same
    (c.in_ok-by_place.ensures ∙ ap (λ (cs : List Column). entries_by_place cs c.args.plan.now c.as_slice-2.result.now) columns) in
    subst (λ (rs : List PlacedRow). AreShownRows (map (λ (p : PlacedRow). p.row) rs)) (sym rows) (shown_rows s c.len-table.ensures.table.distinct)

pub returns-clause-header : goal.returns-clause-header
returns-clause-header g c = λ opening.
    let s = side_of c.args.plan.now opening c.args.table.now in
    let same : c.as_slice.result.now ≡ kept_in_order c.args.plan.now c.args.table.now.store.pairs = c.as_slice.ensures.value ∙ c.in_ok-kept.ensures in
    let columns : c.schema.result.now.columns ≡ c.args.table.now.schema.columns = ap (λ s. s.columns) c.schema.ensures in
    header_shown s c.schema.result.now.columns c.as_slice.result.now c.in_ok-header.header columns same c.in_ok-header.ensures

pub returns-clause-rows : goal.returns-clause-rows
returns-clause-rows g c = λ opening.
    let s = side_of c.args.plan.now opening c.args.table.now in
    let same : c.as_slice-2.result.now ≡ kept_in_order c.args.plan.now c.args.table.now.store.pairs = c.as_slice-2.ensures.value ∙ c.in_ok-kept.ensures in
    let columns : c.schema-2.result.now.columns ≡ c.args.table.now.schema.columns = ap (λ s. s.columns) c.schema-2.ensures in
    c.from_listed.ensures ∙ c.from_vec.ensures ∙ c.in_ok-rows.ensures
    ∙ rows_placed s c.as_slice-2.result.now c.in_ok-by_place.by_place.entries c.requires.flat c.len-table.ensures.table.distinct same
    (c.in_ok-by_place.ensures ∙ ap (λ (cs : List Column). entries_by_place cs c.args.plan.now c.as_slice-2.result.now) columns)
