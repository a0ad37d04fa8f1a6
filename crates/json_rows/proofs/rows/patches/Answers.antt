use Rattle.std.proofs.Common.{◌≤◌, ℕ, length, sym, ◌∙◌, arith}
use Rattle.std.proofs.lemmas.Result.{err_from_is_err_and}
use Rattle.cell_core.specs.RawViews.{raw_view}
use Rattle.cell_core.specs.declared.raw.Raw.{Raw}
use Rattle.row_cells.specs.Rows.{read_each}
use Rattle.row_cells.proofs.Fronts.{front-refused, front-end, read_each-map}
use Rattle.json_rows.specs.Reading.{read_row}
use Rattle.json_rows.proofs.rows.patches.Goals as goal

pub returns-in_err-row_patch-clause-err : goal.returns-in_err-row_patch-clause-err
returns-in_err-row_patch-clause-err c =
    let p = err_from_is_err_and c.from_residual.result c.from_residual.ensures.1 in
    let read = λ (row : ℕ) (v : Raw). read_row c.args.schema.now row (raw_view v) in
    rw (p.1, p.2, sym (read_each-map (read_row c.args.schema.now) raw_view 0 c.args.rows.now))
    (front-refused read c.args.rows.now c.loop-row.row c.index-rows-row.result c.loop-row.found
    (read_each read 0 c.args.rows.now) c.in_err-row_patch.field-0.0 c.loop-row-test.true c.index-rows-row.is c.in_err-row_patch.ensures.err c.loop-row.invariant)

pub returns-clause-ok : goal.returns-clause-ok
returns-clause-ok c =
    let read = λ (row : ℕ) (v : Raw). read_row c.args.schema.now row (raw_view v) in
    let done : length c.args.rows.now ≤ c.loop-row.row = omega arith in
    sym (read_each-map (read_row c.args.schema.now) raw_view 0 c.args.rows.now)
    ∙ front-end read c.args.rows.now c.loop-row.row c.loop-row.found (read_each read 0 c.args.rows.now) done c.loop-row.invariant
