use Rattle.std.proofs.Common.{◌≡◌}
use Rattle.row_batch.specs.Batches.{put_batch}
use Rattle.row_batch.proofs.Keys.{batch_keeps, batch_counts}
use Rattle.row_batch.proofs.table.PlainTable.put.Goals as goal

pub from_draft-requires : goal.from_draft-requires
from_draft-requires c =
    let keeps = batch_keeps c.args.schema.now c.args.self.now c.args.batch.now c.in_ok-draft.ensures.distinct c.requires.counted in
    let made : c.in_ok-after.field-0 ≡ put_batch c.args.schema.now c.args.self.now c.args.batch.now = cc (c.in_ok-after.ensures, c.in_ok-draft.ensures.copy) in
    rw made keeps.0

pub returns-clause-counted : goal.returns-clause-counted
returns-clause-counted c =
    let keeps = batch_keeps c.args.schema.now c.args.self.now c.args.batch.now c.in_ok-draft.ensures.distinct c.requires.counted in
    let made : c.from_draft.result ≡ put_batch c.args.schema.now c.args.self.now c.args.batch.now = cc (c.from_draft.ensures, c.in_ok-after.ensures, c.in_ok-draft.ensures.copy) in
    rw made keeps.1

pub returns-clause-number : goal.returns-clause-number
returns-clause-number c =
    let made : c.from_draft.result ≡ put_batch c.args.schema.now c.args.self.now c.args.batch.now = cc (c.from_draft.ensures, c.in_ok-after.ensures, c.in_ok-draft.ensures.copy) in
    rw made (batch_counts c.args.schema.now c.args.self.now c.args.batch.now)
