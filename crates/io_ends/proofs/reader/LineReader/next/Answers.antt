use Rattle.io_ends.specs.Intake.{held}
use Rattle.io_ends.proofs.NextLines.{next_told, next_taken}
use Rattle.io_ends.proofs.reader.LineReader.next.Goals as goal

pub returns-clause-next : goal.returns-clause-next
returns-clause-next g c =
    let old = c.self.inside in
    let new = c.next_line-line.new.self in
    rw (← c.self.view_is) (
    next_told (g.S.Source.left c.args.source.now) (g.S.Source.left c.next_line-line.new.source) old.longest
    (record { held = held old.intake; given = old.intake.given; longest = old.longest; ended = old.intake.ended; failed = old.failed })
    (record { held = held new; given = new.given; longest = old.longest; ended = new.ended; failed = c.is_err-self-inside.result })
    c.next_line-line.result c.next_line-line.ensures.line c.next_line-line.ensures.end
    )

pub returns-clause-takes : goal.returns-clause-takes
returns-clause-takes g c =
    let old = c.self.inside in
    let new = c.next_line-line.new.self in
    rw (← c.self.view_is) (
    next_taken (g.S.Source.left c.args.source.now) (g.S.Source.left c.next_line-line.new.source) old.longest
    (record { held = held old.intake; given = old.intake.given; longest = old.longest; ended = old.intake.ended; failed = old.failed })
    (record { held = held new; given = new.given; longest = old.longest; ended = new.ended; failed = c.is_err-self-inside.result })
    c.next_line-line.result c.next_line-line.ensures.line
    )
