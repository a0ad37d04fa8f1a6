use Rattle.std.proofs.Common.{◌≡◌, ◌<◌, ◌+◌, ◌++◌, Some, None, length, take, get_or, sym, ap, ◌∙◌, arith}
use Rattle.std.specs.Prelude.{slice_get}
use Rattle.std.specs.List.{flat_map}
use Rattle.std.specs.Option.{option_copied}
use Rattle.std.proofs.lemmas.Option.{slice_get-get_or}
use Rattle.row_batch.specs.Tables.{keys_of_rows}
use Rattle.row_batch.specs.declared.batch.Batch.TheVariants.{Clear}
use Rattle.hub_spec.specs.Room.{keys_put}
use Rattle.hub_core.proofs.Rooms.{counted_more, batches-more}
use Rattle.hub_core.proofs.room.note_queue.Goals as goal
use Rattle.hub_core.proofs.room.note_queue.Goals.{in-Some+in_ok-note_batch, in_default}

pub loop-i-preserved : goal.loop-i-preserved
loop-i-preserved g c = λ keys counted.
    let rows = keys_of_rows c.args.table.now.store.pairs in
    let waits = c.args.queue.now.waiting in
    let i = c.loop-i.i in
    let done = flat_map (keys_put c.args.column) (take i waits) in
    elim c.match-at.branch [
      | in-Some+in_ok-note_batch w ↦
          let at : slice_get waits i ≡ Some w.in-Some.batch.now = sym c.at.ensures ∙ ap option_copied w.in-Some.is in
          rw w.found-is
          (counted_more rows keys done (keys_put c.args.column w.in-Some.batch.now) (flat_map (keys_put c.args.column) (take (i + 1) waits)) w.note_batch.new.found
          (batches-more c.args.column waits i w.in-Some.batch.now at)
          (w.in_ok-note_batch.ensures (keys ++ done) (c.loop-i.invariant keys counted)))
      | in_default w ↦
          let within : i < length waits = omega arith in
          let some : slice_get waits i ≡ Some (get_or waits i Clear) = slice_get-get_or waits i Clear within in
          let none : slice_get waits i ≡ None = sym c.at.ensures ∙ ap option_copied w.in_default.is in
          absurd (cc)
    ]
