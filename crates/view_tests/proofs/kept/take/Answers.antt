use Rattle.std.proofs.Common.{◌≡◌, Some, refl, sym, ap, ◌∙◌, subst}
use Rattle.std.specs.BTreeMap.{is_at}
use Rattle.std.specs.Map.{remove_entry}
use Rattle.cell_core.specs.Cells.{same_cell}
use Rattle.cell_core.specs.contracts.cell.CellOrd.TheImpl.{ghosts}
use Rattle.row_batch.specs.Changes.{row_at}
use Rattle.agg_core.proofs.Cells.{of_map}
use Rattle.agg_core.proofs.MapSteps.{same_lookup}
use Rattle.pivot_tree.specs.Trees.{IsTreeOf}
use Rattle.view_tests.specs.Rows.{rows_of}
use Rattle.view_tests.proofs.MapRows.{row_at-rows_of, without_row-rows_of}
use Rattle.view_tests.proofs.kept.take.Goals as goal

pub take_row-requires : goal.take_row-requires
take_row-requires g c =
    let r = c.requires in
    let old = c.args.rows.now.entries in
    let key = c.args.key.now in
    let there : row_at (rows_of old) key ≡ Some c.in-Some.row = row_at-rows_of old key ∙ sym (c.in-Some.ensures.value ∙ same_lookup key old) in
    (r.0, r.1, rows_of old, r.2, c.keys_tell_rows.ensures.found (rows_of old) key c.in-Some.row r.2.ascending there)

pub returns-in_ok-take_row-in-Some-clause-stands : goal.returns-in_ok-take_row-in-Some-clause-stands
returns-in_ok-take_row-in-Some-clause-stands g c columns plan is =
    let old = c.args.rows.now.entries in
    let key = c.args.key.now in
    let row = c.in-Some.row in
    let there : row_at (rows_of old) key ≡ Some row = row_at-rows_of old key ∙ sym (c.in-Some.ensures.value ∙ same_lookup key old) in
    let same : remove_entry (is_at (ghosts.cmp key)) old ≡ remove_entry (same_cell key) old = of_map (λ R. remove_entry (is_at (R key)) old ≡ remove_entry (same_cell key) old) refl in
    subst (λ rs. IsTreeOf columns plan c.take_row.new.self rs) (without_row-rows_of old key row is.ascending ∙ ap rows_of (sym (c.remove.ensures.entries ∙ same)))
    (c.in_ok-take_row-in-Some.ensures.stands columns plan (rows_of old) is (c.keys_tell_rows.ensures.found (rows_of old) key row is.ascending there))

pub returns-in_ok-take_row-in-Some-clause-steps : goal.returns-in_ok-take_row-in-Some-clause-steps
returns-in_ok-take_row-in-Some-clause-steps g c columns plan is = c.in_ok-take_row-in-Some.ensures.steps columns plan (rows_of c.args.rows.now.entries) is
