use Rattle.std.proofs.Common.{◌≤◌, ℕ, length, Some, sym, ◌∙◌, arith}
use Rattle.std.proofs.lemmas.Result.{err_from_is_err_and}
use Rattle.cell_core.specs.RawViews.{raw_view}
use Rattle.cell_core.specs.declared.raw.Raw.{Raw}
use Rattle.row_cells.specs.Rows.{read_each}
use Rattle.row_cells.proofs.Fronts.{front-push, front-refused, front-end, read_each-map, placed_key-ok, placed_key-err}
use Rattle.json_rows.specs.Reading.{cell_of, read_key}
use Rattle.json_rows.proofs.keys.cells.Goals as goal

pub returns-in_err-placed_key-clause-err : goal.returns-in_err-placed_key-clause-err
returns-in_err-placed_key-clause-err c =
    let p = err_from_is_err_and c.from_residual-in_err-placed_key.result c.from_residual-in_err-placed_key.ensures.1 in
    let read = λ (row : ℕ) (v : Raw). read_key (Some (c.args.column, c.args.kind)) row (raw_view v) in
    let bad = placed_key-err c.loop-row.row c.args.column (cell_of c.args.kind (raw_view c.index-keys-row.result)) c.in_ok-read.read
    c.in_err-placed_key.field-0.0 c.in_ok-read.ensures c.in_err-placed_key.ensures in
    rw (p.1, p.2, sym (read_each-map (read_key (Some (c.args.column, c.args.kind))) raw_view 0 c.args.keys.now))
    (front-refused read c.args.keys.now c.loop-row.row c.index-keys-row.result c.loop-row.found
    (read_each read 0 c.args.keys.now) c.in_err-placed_key.field-0.0 c.loop-row-test.true c.index-keys-row.is bad c.loop-row.invariant)

pub loop-row-preserved : goal.loop-row-preserved
loop-row-preserved c =
    let read = λ (row : ℕ) (v : Raw). read_key (Some (c.args.column, c.args.kind)) row (raw_view v) in
    let good = placed_key-ok c.loop-row.row c.args.column (cell_of c.args.kind (raw_view c.index-keys-row.result)) c.in_ok-read.read
    c.in_ok-placed_key.field-0 c.in_ok-read.ensures c.in_ok-placed_key.ensures in
    rw c.in_ok-push.ensures.ok
    (front-push read c.args.keys.now c.loop-row.row c.index-keys-row.result c.loop-row.found c.in_ok-placed_key.field-0
    (read_each read 0 c.args.keys.now) c.loop-row-test.true c.index-keys-row.is good c.loop-row.invariant)

pub returns-clause-ok : goal.returns-clause-ok
returns-clause-ok c =
    let read = λ (row : ℕ) (v : Raw). read_key (Some (c.args.column, c.args.kind)) row (raw_view v) in
    let done : length c.args.keys.now ≤ c.loop-row.row = omega arith in
    sym (read_each-map (read_key (Some (c.args.column, c.args.kind))) raw_view 0 c.args.keys.now)
    ∙ front-end read c.args.keys.now c.loop-row.row c.loop-row.found (read_each read 0 c.args.keys.now) done c.loop-row.invariant
