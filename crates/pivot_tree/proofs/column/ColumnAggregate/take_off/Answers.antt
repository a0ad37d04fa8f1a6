use Rattle.row_batch.specs.Batches.{pair_of}
use Rattle.cell_core.specs.declared.cell.Cell.TheVariants.{Null}
use Rattle.pivot_tree.specs.Groups.{pairs_in}
use Rattle.pivot_tree.proofs.ColumnSteps.{there, cell_past, cell_there, held_without}
use Rattle.pivot_tree.proofs.column.ColumnAggregate.take_off.Goals as goal

pub take_off-requires : goal.take_off-requires
take_off-requires c =
    let h = c.args.self.now in
    let is = cell_there c.args.row.now h.column c.in-Some.cell.now c.in-Some.ensures.value in
    (pairs_in h.column c.requires.0, c.requires.1, there h.column c.requires.0 (pair_of c.args.key.now c.args.row.now) c.in-Some.cell.now is c.requires.2)

pub take_off-requires-in-None : goal.take_off-requires-in-None
take_off-requires-in-None c =
    let h = c.args.self.now in
    let is = cell_past c.args.row.now h.column c.in-None.ensures.value in
    (pairs_in h.column c.requires.0, c.requires.1, there h.column c.requires.0 (pair_of c.args.key.now c.args.row.now) Null is c.requires.2)

pub returns-in-Some-clause-stands : goal.returns-in-Some-clause-stands
returns-in-Some-clause-stands c =
    let h = c.args.self.now in
    let is = cell_there c.args.row.now h.column c.in-Some.cell.now c.in-Some.ensures.value in
    held_without h (pair_of c.args.key.now c.args.row.now) c.in-Some.cell.now c.take_off.new.self is c.take_off.ensures.stands

pub returns-in-None-clause-stands : goal.returns-in-None-clause-stands
returns-in-None-clause-stands c =
    let h = c.args.self.now in
    let is = cell_past c.args.row.now h.column c.in-None.ensures.value in
    held_without h (pair_of c.args.key.now c.args.row.now) Null c.take_off-in-None.new.self is c.take_off-in-None.ensures.stands
