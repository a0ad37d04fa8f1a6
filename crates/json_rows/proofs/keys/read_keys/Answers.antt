use Rattle.std.proofs.Common.{◌≡◌, ◌≤◌, length, IfOk, IfErr, Ok, sym, subst, arith}
use Rattle.row_batch.specs.Reading.{RefusesRows}
use Rattle.json_rows.proofs.Lists.{read_keys-many, read_keys-few}
use Rattle.json_rows.proofs.keys.read_keys.Goals as goal

pub returns-then-values-gt-MAX_BATCH-clause-err : goal.returns-then-values-gt-MAX_BATCH-clause-err
returns-then-values-gt-MAX_BATCH-clause-err c =
    rw c.too_many.ensures
    (read_keys-many c.args.schema.now c.args.keys.now c.in-List.list c.as_slice-values.result.now c.in-List.is c.as_slice-values.ensures c.if-values-gt-MAX_BATCH.true)

pub returns-clause-ok : goal.returns-clause-ok
returns-clause-ok c =
    let few : length c.as_slice-values.result.now ≤ 1024 = omega arith in
    let same = read_keys-few c.args.schema.now c.in-Indexed.column c.type_of.result c.args.keys.now c.in-List.list c.as_slice-values.result.now
    (sym c.in-Indexed.ensures.keeping) c.type_of.ensures c.in-List.is c.as_slice-values.ensures few in
    subst (λ w. IfOk c.cells.result (λ cells. w ≡ Ok cells)) (sym same) c.cells.ensures.ok

pub returns-clause-err : goal.returns-clause-err
returns-clause-err c =
    let few : length c.as_slice-values.result.now ≤ 1024 = omega arith in
    let same = read_keys-few c.args.schema.now c.in-Indexed.column c.type_of.result c.args.keys.now c.in-List.list c.as_slice-values.result.now
    (sym c.in-Indexed.ensures.keeping) c.type_of.ensures c.in-List.is c.as_slice-values.ensures few in
    subst (λ w. IfErr c.cells.result (RefusesRows w)) (sym same) c.cells.ensures.err
