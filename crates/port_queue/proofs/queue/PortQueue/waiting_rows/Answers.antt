use Rattle.std.proofs.Common.{◌≡◌, ◌+◌, ◌<◌, Some, option_map, length, take, sum_by, get_or, ap, ◌∙◌, arith}
use Rattle.std.proofs.lemmas.List.Sums.{sum_by_more}
use Rattle.std.proofs.lemmas.Option.{slice_get-get_or}
use Rattle.row_batch.specs.Batches.{rows_in}
use Rattle.row_batch.specs.declared.batch.Batch.TheVariants.{Clear}
use Rattle.port_queue.proofs.queue.PortQueue.waiting_rows.Goals as goal

pub loop-i-preserved : goal.loop-i-preserved
loop-i-preserved c =
    let waiting = c.args.self.now.waiting in
    let i = c.loop-i.i in
    let same = ap (λ q. length q.waiting) c.self.view_is in
    let within : i < length waiting = omega (arith, same) in
    let at : Some c.rows_at-rows.result ≡ Some (rows_in (get_or waiting i Clear)) =
    c.rows_at-rows.ensures.rows ∙ ap (option_map rows_in) (slice_get-get_or waiting i Clear within) in
    let is : c.rows_at-rows.result ≡ rows_in (get_or waiting i Clear) = cc in
    let more : sum_by rows_in (take (i + 1) waiting) ≡ sum_by rows_in (take i waiting) + rows_in (get_or waiting i Clear) =
    sum_by_more rows_in waiting i Clear within in
    (omega (arith, c.loop-i.invariant.0, more, is), omega (arith, c.loop-i.invariant.1, c.rows_at-rows.ensures.few))
