use Rattle.std.proofs.Common.{◌≡◌, ◌<◌, None, All, refl, sym, ap, ◌∙◌, subst, rules, length}
use Rattle.std.specs.BTreeMap.{insert_entry}
use Rattle.std.specs.Map.{lookup}
use Rattle.cell_core.specs.Cells.{cell_order, same_cell}
use Rattle.cell_core.specs.Limits.{max_rows}
use Rattle.cell_core.specs.contracts.cell.CellOrd.TheImpl.{ghosts}
use Rattle.row_batch.specs.Batches.{pair_of}
use Rattle.agg_core.proofs.Cells.{of_map}
use Rattle.pivot_tree.specs.Trees.{CanAddRow, IsTreeOf}
use Rattle.view_tests.specs.Rows.{IsNumber, rows_of}
use Rattle.view_tests.proofs.MapRows.{can_add, with_row-rows_of}
use Rattle.view_tests.proofs.kept.put.Goals as goal

pub add_row-requires : goal.add_row-requires
add_row-requires g c =
    let r = c.requires in
    let old = c.args.rows.now.entries in
    let none : lookup (same_cell c.args.key) old ≡ None = search rules in
    let room : length old < max_rows = search rules in
    let numbers : All IsNumber c.args.row = search rules in
    (r.0, r.1, rows_of old, r.2, can_add r.0 r.1 old c.args.key c.args.row c.keys_tell_rows.ensures.missing none room numbers)

pub returns-clause-stands : goal.returns-clause-stands
returns-clause-stands g c columns plan is =
    let old = c.args.rows.now.entries in
    let key = c.args.key in
    let row = c.args.row in
    let none : lookup (same_cell key) old ≡ None = search rules in
    let room : length old < max_rows = search rules in
    let numbers : All IsNumber row = search rules in
    let can : CanAddRow columns plan (rows_of old) (pair_of key row) = can_add columns plan old key row c.keys_tell_rows.ensures.missing none room numbers in
    let same : insert_entry ghosts.cmp old key row ≡ insert_entry cell_order old key row = of_map (λ R. insert_entry R old key row ≡ insert_entry cell_order old key row) refl in
    subst (λ rs. IsTreeOf columns plan c.add_row.new.self rs) (with_row-rows_of old key row can.absent ∙ ap rows_of (sym (c.in_ok-insert.ensures.entries ∙ same)))
    (c.in_ok-add_row.ensures.stands columns plan (rows_of old) is can)

pub returns-clause-steps : goal.returns-clause-steps
returns-clause-steps g c columns plan is = c.in_ok-add_row.ensures.steps columns plan (rows_of c.args.rows.now.entries) is
