use Rattle.row_batch.specs.Batches.{pair_of}
use Rattle.cell_core.specs.declared.cell.Cell.TheVariants.{Null}
use Rattle.pivot_tree.specs.Groups.{pairs_in, named_of}
use Rattle.pivot_tree.proofs.ColumnSteps.{can_add, cell_past, cell_there, held_with}
use Rattle.pivot_tree.proofs.column.ColumnAggregate.add.Goals as goal

pub add-requires : goal.add-requires
add-requires c =
    let h = c.args.self.now in
    let is = cell_there c.args.row.now h.column c.in-Some.cell.now c.in-Some.ensures.value in
    (pairs_in h.column c.requires.0, c.requires.1, can_add (named_of h) c.requires.0 (pair_of c.args.key.now c.args.row.now) c.in-Some.cell.now is c.requires.2)

pub add-requires-in-None : goal.add-requires-in-None
add-requires-in-None c =
    let h = c.args.self.now in
    let is = cell_past c.args.row.now h.column c.in-None.ensures.value in
    (pairs_in h.column c.requires.0, c.requires.1, can_add (named_of h) c.requires.0 (pair_of c.args.key.now c.args.row.now) Null is c.requires.2)

pub returns-in-Some-clause-ok : goal.returns-in-Some-clause-ok
returns-in-Some-clause-ok c =
    let h = c.args.self.now in
    let is = cell_there c.args.row.now h.column c.in-Some.cell.now c.in-Some.ensures.value in
    held_with c.add.result h (pair_of c.args.key.now c.args.row.now) c.in-Some.cell.now c.add.new.self is c.add.ensures.ok

pub returns-in-None-clause-ok : goal.returns-in-None-clause-ok
returns-in-None-clause-ok c =
    let h = c.args.self.now in
    let is = cell_past c.args.row.now h.column c.in-None.ensures.value in
    held_with c.add-in-None.result h (pair_of c.args.key.now c.args.row.now) Null c.add-in-None.new.self is c.add-in-None.ensures.ok
