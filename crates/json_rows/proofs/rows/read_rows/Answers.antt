use Rattle.std.proofs.Common.{◌≡◌, IfOk, IfErr, Ok, sym, subst}
use Rattle.row_batch.specs.Reading.{RefusesRows}
use Rattle.json_rows.proofs.Lists.{read_rows-list}
use Rattle.json_rows.proofs.rows.read_rows.Goals as goal

pub returns-in-List-clause-ok : goal.returns-in-List-clause-ok
returns-in-List-clause-ok c =
    let same = read_rows-list c.args.schema.now c.args.rows.now c.in-List.list c.as_slice.result.now c.in-List.is c.as_slice.ensures in
    subst (λ w. IfOk c.list_rows.result (λ patches. w ≡ Ok patches)) (sym same) c.list_rows.ensures.ok

pub returns-in-List-clause-err : goal.returns-in-List-clause-err
returns-in-List-clause-err c =
    let same = read_rows-list c.args.schema.now c.args.rows.now c.in-List.list c.as_slice.result.now c.in-List.is c.as_slice.ensures in
    subst (λ w. IfErr c.list_rows.result (RefusesRows w)) (sym same) c.list_rows.ensures.err
