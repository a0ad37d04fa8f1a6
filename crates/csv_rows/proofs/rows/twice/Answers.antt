use Rattle.std.proofs.Common.{[], take, true, false, sym, ◌∙◌}
use Rattle.csv_rows.specs.Reading.{twice_from}
use Rattle.csv_rows.proofs.RecordLemmas.{twice-here, twice-next}
use Rattle.csv_rows.proofs.NameLemmas.{is_earlier, more_held}
use Rattle.csv_rows.proofs.rows.twice.Goals as goal

pub returns-then-is_some : goal.returns-then-is_some
returns-then-is_some c =
    let names = c.args.names.now in
    let name = c.index-names-i.result in
    let found = is_earlier (take c.loop-i.i names) name c.loop-i.found c.as_str.result c.in_ok-insert.field-0 true c.loop-i.invariant.held c.as_str.ensures c.in_ok-insert.ensures.old
    (sym c.is_some.ensures ∙ c.if-is_some.true) in
    twice-here names c.loop-i.i name (twice_from [] 0 names) c.loop-i-test.true c.index-names-i.is found c.loop-i.invariant.same

pub loop-i-preserved : goal.loop-i-preserved
loop-i-preserved c =
    let names = c.args.names.now in
    let name = c.index-names-i.result in
    let found = is_earlier (take c.loop-i.i names) name c.loop-i.found c.as_str.result c.in_ok-insert.field-0 false c.loop-i.invariant.held c.as_str.ensures c.in_ok-insert.ensures.old
    (sym c.is_some.ensures ∙ c.if-is_some.false) in
    record {
      same = twice-next names c.loop-i.i name (twice_from [] 0 names) c.loop-i-test.true c.index-names-i.is found c.loop-i.invariant.same;
      held = more_held names c.loop-i.i name c.loop-i.found c.insert.new.self c.as_str.result c.loop-i-test.true c.index-names-i.is c.as_str.ensures c.in_ok-insert.ensures.updates c.loop-i.invariant.held;
    }
