use Rattle.std.proofs.Common.{refl, ap}
use Rattle.cell_core.specs.RawViews.{raw_view}
use Rattle.frame_types.specs.Asks as ask
use Rattle.frame_types.specs.Refusals.{bad_frame, frame_cause, table_set}
use Rattle.hub_core.proofs.Giving.{refused_gives, views_end, views_give}
use Rattle.hub_core.proofs.engine.Engine.answer.Goals as goal

pub returns-in-Table-clause-gives : goal.returns-in-Table-clause-gives
returns-in-Table-clause-gives g c = λ past h few.
    let e = c.args.self.now in
    rw (c.in-Table.is, c.table_set.ensures)
    (refused_gives e.table e.version e.ports e.views past c.args.session (ask.table c.in-Table.columns c.in-Table.index c.in-Table.limit) table_set h (rw h.table.schema refl) refl)

pub returns-in-Port-clause-gives : goal.returns-in-Port-clause-gives
returns-in-Port-clause-gives g c = λ past h few. rw c.in-Port.is (c.make_port.ensures.gives c.args.session past h few)

pub returns-in-Leave-clause-gives : goal.returns-in-Leave-clause-gives
returns-in-Leave-clause-gives g c = λ past h few.
    let e = c.args.self.now in
    rw c.in-Leave.is (views_give e.table e.version e.ports e.views _ past c.args.session 0 ask.leave _ h (c.leave.ensures.about 0) (c.leave.ensures.gives e.table past h.views few))

pub returns-in-Info-clause-gives : goal.returns-in-Info-clause-gives
returns-in-Info-clause-gives g c = λ past h few. rw c.in-Info.is (c.info.ensures.gives c.args.session past h few)

pub returns-in-Update-clause-gives : goal.returns-in-Update-clause-gives
returns-in-Update-clause-gives g c = λ past h few. rw c.in-Update.is (c.queue.ensures.gives c.args.session past h few)

pub returns-in-Replace-clause-gives : goal.returns-in-Replace-clause-gives
returns-in-Replace-clause-gives g c = λ past h few. rw c.in-Replace.is (c.queue-in-Replace.ensures.gives c.args.session past h few)

pub returns-in-Csv-clause-gives : goal.returns-in-Csv-clause-gives
returns-in-Csv-clause-gives g c = λ past h few. rw c.in-Csv.is (c.queue-in-Csv.ensures.gives c.args.session past h few)

pub returns-in-Remove-clause-gives : goal.returns-in-Remove-clause-gives
returns-in-Remove-clause-gives g c = λ past h few. rw c.in-Remove.is (c.queue-in-Remove.ensures.gives c.args.session past h few)

pub returns-in-Clear-clause-gives : goal.returns-in-Clear-clause-gives
returns-in-Clear-clause-gives g c = λ past h few. rw c.in-Clear.is (c.queue-in-Clear.ensures.gives c.args.session past h few)

pub returns-in-ClosePort-clause-gives : goal.returns-in-ClosePort-clause-gives
returns-in-ClosePort-clause-gives g c = λ past h few. rw c.in-ClosePort.is (c.close_port.ensures.gives c.args.session past h few)

pub returns-in-Apply-clause-gives : goal.returns-in-Apply-clause-gives
returns-in-Apply-clause-gives g c = λ past h few. rw c.in-Apply.is (c.apply.ensures.gives c.args.session past h few)

pub returns-in-Open-clause-gives : goal.returns-in-Open-clause-gives
returns-in-Open-clause-gives g c = λ past h few.
    let e = c.args.self.now in
    rw c.in-Open.is
    (views_give e.table e.version e.ports e.views _ past c.args.session 0 (ask.open_view (raw_view c.in-Open.plan) c.in-Open.bound) _ h (c.open.ensures.about 0)
    (c.open.ensures.gives past (h.views, h.table) few))

pub returns-in-Edit-clause-gives : goal.returns-in-Edit-clause-gives
returns-in-Edit-clause-gives g c = λ past h few. rw c.in-Edit.is (c.change.ensures.gives past h few)

pub returns-in-Depth-clause-gives : goal.returns-in-Depth-clause-gives
returns-in-Depth-clause-gives g c = λ past h few. rw c.in-Depth.is (c.change-in-Depth.ensures.gives past h few)

pub returns-in-Expand-clause-gives : goal.returns-in-Expand-clause-gives
returns-in-Expand-clause-gives g c = λ past h few. rw c.in-Expand.is (c.change-in-Expand.ensures.gives past h few)

pub returns-in-Collapse-clause-gives : goal.returns-in-Collapse-clause-gives
returns-in-Collapse-clause-gives g c = λ past h few. rw c.in-Collapse.is (c.change-in-Collapse.ensures.gives past h few)

pub returns-in-Take-clause-gives : goal.returns-in-Take-clause-gives
returns-in-Take-clause-gives g c = λ past h few.
    let e = c.args.self.now in
    rw c.in-Take.is
    (views_give e.table e.version e.ports e.views _ past c.args.session e.version (ask.take c.in-Take.view c.in-Take.wait) _ h c.take.ensures.about
    (c.take.ensures.gives e.table c.in-Take.wait past (h.views, h.table.number) few))

pub returns-in-Rows-clause-gives : goal.returns-in-Rows-clause-gives
returns-in-Rows-clause-gives g c = λ past h few.
    let e = c.args.self.now in
    rw c.in-Rows.is
    (views_give e.table e.version e.ports e.views _ past c.args.session 0 (ask.rows c.in-Rows.view c.in-Rows.from c.in-Rows.to) _ h (c.rows.ensures.about 0) (c.rows.ensures.gives e.table past h.views few))

pub returns-in-Close-clause-gives : goal.returns-in-Close-clause-gives
returns-in-Close-clause-gives g c = λ past h few.
    let e = c.args.self.now in
    rw c.in-Close.is
    (views_give e.table e.version e.ports e.views _ past c.args.session 0 (ask.close c.in-Close.view) _ h (c.close.ensures.about 0) (c.close.ensures.gives e.table past h.views few))

pub returns-clause-gives : goal.returns-clause-gives
returns-clause-gives g c = λ past h few.
    let e = c.args.self.now in
    rw (c.in-Unread.is, c.unread.ensures)
    (refused_gives e.table e.version e.ports e.views past c.args.session (ask.unread c.in-Unread.why) (bad_frame (frame_cause c.in-Unread.why)) h refl refl)

pub returns-in-Leave-clause-ends : goal.returns-in-Leave-clause-ends
returns-in-Leave-clause-ends g c = let e = c.args.self.now in views_end e.version _ (c.leave.ensures.about e.version)

pub returns-in-Open-clause-ends : goal.returns-in-Open-clause-ends
returns-in-Open-clause-ends g c = let e = c.args.self.now in views_end e.version _ (c.open.ensures.about e.version)

pub returns-in-Edit-clause-ends : goal.returns-in-Edit-clause-ends
returns-in-Edit-clause-ends g c = c.change.ensures.ends

pub returns-in-Depth-clause-ends : goal.returns-in-Depth-clause-ends
returns-in-Depth-clause-ends g c = c.change-in-Depth.ensures.ends

pub returns-in-Expand-clause-ends : goal.returns-in-Expand-clause-ends
returns-in-Expand-clause-ends g c = c.change-in-Expand.ensures.ends

pub returns-in-Collapse-clause-ends : goal.returns-in-Collapse-clause-ends
returns-in-Collapse-clause-ends g c = c.change-in-Collapse.ensures.ends

pub returns-in-Take-clause-ends : goal.returns-in-Take-clause-ends
returns-in-Take-clause-ends g c = let e = c.args.self.now in views_end e.version _ c.take.ensures.about

pub returns-in-Rows-clause-ends : goal.returns-in-Rows-clause-ends
returns-in-Rows-clause-ends g c = let e = c.args.self.now in views_end e.version _ (c.rows.ensures.about e.version)

pub returns-in-Close-clause-ends : goal.returns-in-Close-clause-ends
returns-in-Close-clause-ends g c = let e = c.args.self.now in views_end e.version _ (c.close.ensures.about e.version)

pub returns-in-Port-clause-ends : goal.returns-in-Port-clause-ends
returns-in-Port-clause-ends g c = c.make_port.ensures.ends c.make_port.new.self.version

pub returns-in-Update-clause-ends : goal.returns-in-Update-clause-ends
returns-in-Update-clause-ends g c = c.queue.ensures.ends c.queue.new.self.version

pub returns-in-Replace-clause-ends : goal.returns-in-Replace-clause-ends
returns-in-Replace-clause-ends g c = c.queue-in-Replace.ensures.ends c.queue-in-Replace.new.self.version

pub returns-in-Csv-clause-ends : goal.returns-in-Csv-clause-ends
returns-in-Csv-clause-ends g c = c.queue-in-Csv.ensures.ends c.queue-in-Csv.new.self.version

pub returns-in-Remove-clause-ends : goal.returns-in-Remove-clause-ends
returns-in-Remove-clause-ends g c = c.queue-in-Remove.ensures.ends c.queue-in-Remove.new.self.version

pub returns-in-Clear-clause-ends : goal.returns-in-Clear-clause-ends
returns-in-Clear-clause-ends g c = c.queue-in-Clear.ensures.ends c.queue-in-Clear.new.self.version

pub returns-in-ClosePort-clause-ends : goal.returns-in-ClosePort-clause-ends
returns-in-ClosePort-clause-ends g c = c.close_port.ensures.ends c.close_port.new.self.version

pub returns-in-Apply-clause-ends : goal.returns-in-Apply-clause-ends
returns-in-Apply-clause-ends g c = c.apply.ensures.ends c.apply.new.self.version

pub returns-in-Info-clause-ends : goal.returns-in-Info-clause-ends
returns-in-Info-clause-ends g c = let e = c.args.self.now in c.info.ensures.ends e.version
