use Rattle.std.proofs.Common.{◌≡◌, refl, sym, ap}
use Rattle.frame_types.specs.Asks as ask
use Rattle.frame_types.specs.Asks.{request_view}
use Rattle.frame_types.specs.Refusals.{bad_frame, frame_cause, no_table}
use Rattle.hub_core.proofs.Bare.{bare_plain, bare_refused, left_bare, left_given}
use Rattle.hub_core.proofs.machine.Machine.begin.Goals as goal

pub returns-in-Table-clause-gives : goal.returns-in-Table-clause-gives
returns-in-Table-clause-gives c = λ session past h few. rw c.in-Table.is (c.make_table.ensures.gives session past h few)

pub returns-in-Leave-clause-gives : goal.returns-in-Leave-clause-gives
returns-in-Leave-clause-gives c = λ session past h few.
    let held = rw c.requires at h in
    rw (c.in-Leave.is, c.requires)
    (record { given = left_given past session held; holds = λ n at. left_bare _ past session n at 0 ask.leave held })

pub returns-in-Unread-clause-gives : goal.returns-in-Unread-clause-gives
returns-in-Unread-clause-gives c = λ session past h few.
    let held = rw c.requires at h in
    rw (c.in-Unread.is, c.unread.ensures, c.requires)
    (bare_refused past session (ask.unread c.in-Unread.why) (bad_frame (frame_cause c.in-Unread.why)) held refl refl)

pub returns-clause-gives : goal.returns-clause-gives
returns-clause-gives c = λ session past h few.
    let held = rw c.requires at h in
    rw (c.no_table.ensures, c.requires)
    (bare_refused past session (request_view c.args.request) no_table held refl
    (bare_plain past session c.args.request held.0 c.in_default.not-Table c.in_default.not-Leave c.in_default.not-Unread))
