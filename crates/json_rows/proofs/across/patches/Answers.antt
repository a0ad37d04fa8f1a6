use Rattle.std.proofs.Common.{◌≤◌, arith}
use Rattle.std.proofs.lemmas.Result.{err_from_is_err_and}
use Rattle.cell_core.specs.RawViews.{map_view}
use Rattle.row_cells.specs.Rows.{read_each}
use Rattle.json_rows.specs.Reading.{read_row, rows_across}
use Rattle.json_rows.proofs.AcrossLemmas.{across-push, across-refused, across-end}
use Rattle.json_rows.proofs.across.patches.Goals as goal

pub returns-in_err-across_patch-clause-err : goal.returns-in_err-across_patch-clause-err
returns-in_err-across_patch-clause-err c =
    let p = err_from_is_err_and c.from_residual.result c.from_residual.ensures.1 in
    let ms = map_view c.args.lists.now in
    rw (p.1, p.2)
    (across-refused c.args.schema.now ms c.loop-row.row c.args.count c.loop-row.found (read_each (read_row c.args.schema.now) 0 (rows_across ms 0 c.args.count))
    c.in_err-across_patch.field-0.0 c.loop-row-test.true c.requires c.in_err-across_patch.ensures.err c.loop-row.invariant)

pub loop-row-preserved : goal.loop-row-preserved
loop-row-preserved c =
    let ms = map_view c.args.lists.now in
    rw c.in_ok-push.ensures.ok
    (across-push c.args.schema.now ms c.loop-row.row c.args.count c.loop-row.found c.in_ok-across_patch.field-0 (read_each (read_row c.args.schema.now) 0 (rows_across ms 0 c.args.count))
    c.loop-row-test.true c.requires c.in_ok-across_patch.ensures.ok c.loop-row.invariant)

pub returns-clause-ok : goal.returns-clause-ok
returns-clause-ok c =
    let ms = map_view c.args.lists.now in
    let done : c.args.count ≤ c.loop-row.row = omega arith in
    across-end c.args.schema.now ms c.loop-row.row c.args.count c.loop-row.found (read_each (read_row c.args.schema.now) 0 (rows_across ms 0 c.args.count)) done c.loop-row.invariant
