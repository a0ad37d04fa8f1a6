use Rattle.std.proofs.Common.{ap, ◌∙◌}
use Rattle.std.specs.BTreeMap.{insert_entry}
use Rattle.cell_core.specs.contracts.cell.CellOrd.TheImpl.{ghosts}
use Rattle.row_batch.specs.Tables.{keys_of_rows}
use Rattle.hub_core.proofs.Rooms.{new_key, known_key, no_row_has, none_found, by_row, by_found}
use Rattle.hub_core.proofs.room.note_key.Goals as goal
use Rattle.hub_core.proofs.room.note_key.Goals.{else-not-has_row-via-then-not-has_row+else-not-contains_key, else-not-has_row-via-else-not-has_row}

pub returns-in_ok-insert : goal.returns-in_ok-insert
returns-in_ok-insert g c = λ keys counted.
    let found = c.args.found.now in
    let key = c.args.key.now in
    new_key (keys_of_rows c.args.table.now.store.pairs) keys found c.insert.new.self key
    (no_row_has key c.args.table.now.store.pairs c.has_row.result c.has_row.ensures c.if-not-has_row.true)
    (none_found key found c.contains_key.result c.contains_key.ensures c.if-not-contains_key.true)
    (c.in_ok-insert.ensures.entries ∙ ap (λ k. insert_entry ghosts.cmp found.entries k tt) c.in_ok-copy.ensures)
    counted

pub returns-else-not-has_row : goal.returns-else-not-has_row
returns-else-not-has_row g c = λ keys counted.
    let found = c.args.found.now in
    let key = c.args.key.now in
    let rows = keys_of_rows c.args.table.now.store.pairs in
    elim c.else-not-has_row.branch [
      | else-not-has_row-via-then-not-has_row+else-not-contains_key w ↦
          known_key rows keys found key (by_found key rows found w.contains_key.result w.contains_key.ensures w.if-not-contains_key.false) counted
      | else-not-has_row-via-else-not-has_row w ↦
          known_key rows keys found key (by_row key c.args.table.now.store.pairs found c.has_row.result c.has_row.ensures w.if-not-has_row.false) counted
    ]
