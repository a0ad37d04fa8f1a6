use Rattle.std.proofs.Common.{sym, ap, ◌∙◌, subst, w64, FitsSigned}
use Rattle.std.proofs.lemmas.Int.{to_z-of_z}
use Rattle.row_cells.specs.Cells.{integer_cell}
use Rattle.csv_rows.proofs.NumberLemmas.{integer_field-range}
use Rattle.csv_rows.proofs.numbers.integer_field.Goals as goal

pub returns-in-Ok : goal.returns-in-Ok
returns-in-Ok c =
    let value = c.in-Ok.ensures.value.0 in
    let fits = subst (FitsSigned w64) (sym value.1) value.0.1 in
    c.integer_cell.ensures ∙ ap integer_cell (to_z-of_z w64 c.in-Ok.number fits ∙ value.1)

pub returns-in-Err : goal.returns-in-Err
returns-in-Err c = sym (integer_field-range c.args.text.now c.requires c.in-Err.ensures.value.0)
