use Rattle.std.proofs.Common.{◌≤◌, length, sym, ap, ◌∙◌, subst, arith}
use Rattle.std.proofs.lemmas.Result.{err_from_is_err_and}
use Rattle.row_batch.specs.Reading.{RefusesRows}
use Rattle.row_cells.specs.Rows.{read_each}
use Rattle.row_cells.proofs.Fronts.{front-push, front-refused, front-end}
use Rattle.csv_rows.specs.Reading.{read_record}
use Rattle.csv_rows.proofs.rows.patches.Goals as goal

pub returns-in_err-record_patch-clause-err : goal.returns-in_err-record_patch-clause-err
returns-in_err-record_patch-clause-err c =
    let p = err_from_is_err_and c.from_residual.result c.from_residual.ensures.1 in
    let read = read_record c.args.schema.now c.args.names.now in
    let bad = subst (λ fields. RefusesRows (read c.loop-row.row fields) c.in_err-record_patch.field-0.0) c.as_slice.ensures c.in_err-record_patch.ensures.err in
    rw (p.1, p.2)
    (front-refused read c.args.rows.now c.loop-row.row c.index-rows-row.result c.loop-row.found
    (read_each read 0 c.args.rows.now) c.in_err-record_patch.field-0.0 c.loop-row-test.true c.index-rows-row.is bad c.loop-row.invariant)

pub loop-row-preserved : goal.loop-row-preserved
loop-row-preserved c =
    let read = read_record c.args.schema.now c.args.names.now in
    let good = ap (read c.loop-row.row) (sym c.as_slice.ensures) ∙ c.in_ok-record_patch.ensures.ok in
    rw c.in_ok-push.ensures.ok
    (front-push read c.args.rows.now c.loop-row.row c.index-rows-row.result c.loop-row.found c.in_ok-record_patch.field-0
    (read_each read 0 c.args.rows.now) c.loop-row-test.true c.index-rows-row.is good c.loop-row.invariant)

pub returns-clause-ok : goal.returns-clause-ok
returns-clause-ok c =
    let read = read_record c.args.schema.now c.args.names.now in
    let done : length c.args.rows.now ≤ c.loop-row.row = omega arith in
    front-end read c.args.rows.now c.loop-row.row c.loop-row.found (read_each read 0 c.args.rows.now) done c.loop-row.invariant
