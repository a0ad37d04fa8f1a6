use Rattle.std.proofs.Common.{◌≡◌, ◌≤◌, List, ap, sym, subst, ◌∙◌, arith, Option}
use Rattle.std.specs.Map.{keys_of}
use Rattle.plain_data.specs.Distinct.{AreDistinct}
use Rattle.cell_core.specs.declared.cell.Cell.{Cell}
use Rattle.indexmap.specs.IndexMap.{spare}
use Rattle.table_core.specs.Lookups.{puts_in, settled_row}
use Rattle.table_core.proofs.Entries.{unique, settled_step}
use Rattle.table_core.proofs.lookup.settle.Goals as goal

pub loop-key-init : goal.loop-key-init
loop-key-init c =
    let gives = c.into_iter-key-iterator.ensures.into_iter_gives in
    let at : c.into_iter-key-iterator.result ≡ c.args.finals.entries = gives.0 in
    let P : List (Cell × Option (List Cell)) → Type 0 = λ es. puts_in es ≤ spare c.args.rows.now in
    record {
      rows = λ q. ap (λ es. settled_row es c.args.rows.now.entries q) at;
      distinct = subst (λ (es : List (Cell × Option (List Cell))). AreDistinct (keys_of es)) (sym at) (unique (keys_of c.args.finals.entries) gives.4);
      unique = c.requires.distinct;
      room = subst P (sym at) c.requires.room;
    }

pub loop-key-preserved : goal.loop-key-preserved
loop-key-preserved c =
    let steps = c.in-Some.ensures.steps in
    let inv = c.loop-key.invariant in
    let distinct = rw steps at inv.distinct in
    let room = rw steps at inv.room in
    record {
      rows = λ q.
          settled_step (c.in-Some.key, c.in-Some.row) c.next.new.self c.loop-key.rows.entries c.settle_one.new.rows.entries q distinct.0 c.settle_one.ensures.rows
          ∙ sym (ap (λ es. settled_row es c.loop-key.rows.entries q) steps) ∙ inv.rows q;
      distinct = distinct.1;
      unique = c.settle_one.ensures.distinct;
      room = omega (arith, room, c.settle_one.ensures.room);
    }
