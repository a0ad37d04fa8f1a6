use Rattle.std.proofs.Common.{sym, ap, ◌∙◌}
use Rattle.json_rows.specs.Reading.{cell_of}
use Rattle.json_rows.proofs.Lists.{value_at-here, value_at-past, cell_of-null}
use Rattle.json_rows.proofs.cells.listed_cell.Goals as goal

pub returns-in-Some : goal.returns-in-Some
returns-in-Some c =
    let found = c.in-Some.ensures.lookup in
    let at = value_at-here c.args.list.now c.in-List.values c.as_slice.result.now c.args.row c.in-Some.value.now c.in-List.is c.as_slice.ensures found.3.0 found.1 in
    rw at c.cell_of.ensures

pub returns-in-None : goal.returns-in-None
returns-in-None c =
    let at = value_at-past c.args.list.now c.in-List.values c.as_slice.result.now c.args.row c.in-List.is c.as_slice.ensures c.in-None.ensures.lookup.3 in
    sym (ap (cell_of c.args.kind) at ∙ cell_of-null c.args.kind)
