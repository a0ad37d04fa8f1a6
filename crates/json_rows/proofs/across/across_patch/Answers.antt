use Rattle.std.proofs.Common.{ℕ, sym, ap, ◌∙◌}
use Rattle.std.proofs.lemmas.Result.{err_from_is_err_and}
use Rattle.cell_core.specs.RawViews.{map_view}
use Rattle.cell_core.specs.declared.schema.Column.{Column}
use Rattle.row_cells.specs.Rows.{read_each, placed}
use Rattle.row_cells.proofs.Fronts.{front-push, front-refused, placed-ok, placed-err}
use Rattle.json_rows.specs.Reading.{member_of, patch_cell_of, row_across}
use Rattle.json_rows.proofs.AcrossLemmas.{get_raw-row_across}
use Rattle.json_rows.proofs.across.across_patch.Goals as goal

pub returns-in_err-placed-clause-err : goal.returns-in_err-placed-clause-err
returns-in_err-placed-clause-err c =
    let p = err_from_is_err_and c.from_residual-in_err-placed.result c.from_residual-in_err-placed.ensures.1 in
    let read = λ (i : ℕ) (col : Column). placed c.args.schema.now.keeping c.args.row i (member_of (row_across c.args.row (map_view c.args.lists.now)) col) in
    let bad = placed-err c.args.schema.now.keeping c.keeping.result c.args.row c.loop-i.i (member_of (row_across c.args.row (map_view c.args.lists.now)) c.index-columns-i.result) c.in_ok-read.read
    c.in_err-placed.field-0.0 c.keeping.ensures.keeping (c.in_ok-read.ensures ∙ ap (patch_cell_of c.index-columns-i.result.kind) (sym (get_raw-row_across c.args.row c.index-columns-i.result.name (map_view c.args.lists.now)))) c.in_err-placed.ensures in
    rw (p.1, p.2, sym c.columns-columns.ensures)
    (front-refused read c.columns-columns.result.now c.loop-i.i c.index-columns-i.result c.loop-i.cells
    (read_each read 0 c.columns-columns.result.now) c.in_err-placed.field-0.0 c.loop-i-test.true c.index-columns-i.is bad c.loop-i.invariant)

pub loop-i-preserved : goal.loop-i-preserved
loop-i-preserved c =
    let read = λ (i : ℕ) (col : Column). placed c.args.schema.now.keeping c.args.row i (member_of (row_across c.args.row (map_view c.args.lists.now)) col) in
    let good = placed-ok c.args.schema.now.keeping c.keeping.result c.args.row c.loop-i.i (member_of (row_across c.args.row (map_view c.args.lists.now)) c.index-columns-i.result) c.in_ok-read.read
    c.in_ok-placed.field-0 c.keeping.ensures.keeping (c.in_ok-read.ensures ∙ ap (patch_cell_of c.index-columns-i.result.kind) (sym (get_raw-row_across c.args.row c.index-columns-i.result.name (map_view c.args.lists.now)))) c.in_ok-placed.ensures in
    rw c.in_ok-push.ensures.ok
    (front-push read c.columns-columns.result.now c.loop-i.i c.index-columns-i.result c.loop-i.cells c.in_ok-placed.field-0
    (read_each read 0 c.columns-columns.result.now) c.loop-i-test.true c.index-columns-i.is good c.loop-i.invariant)
