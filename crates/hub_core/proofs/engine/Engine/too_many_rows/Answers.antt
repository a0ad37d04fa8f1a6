use Rattle.std.proofs.Common.{sym, ap, ◌∙◌, arith}
use Rattle.hub_core.proofs.Rooms.{free_over, room_for_all}
use Rattle.hub_core.proofs.engine.Engine.too_many_rows.Goals as goal

pub returns-then-all : goal.returns-then-all
returns-then-all g c =
    let e = c.args.self.now in
    room_for_all e.table e.ports c.args.batch.now (omega (arith, c.len-rows.ensures.size, c.rows_waiting.ensures.rows, c.rows.ensures))

pub returns-in-Free : goal.returns-in-Free
returns-in-Free g c =
    let e = c.args.self.now in
    free_over e.table e.ports c.args.batch.now _ (ap (λ s. s.keeping) (sym c.schema.ensures) ∙ sym c.keeping.ensures.keeping ∙ c.in-Free.is)
    (omega (arith, c.len-rows.ensures.size, c.rows_waiting.ensures.rows, c.rows.ensures)) (omega arith)
