use Rattle.std.proofs.Common.{arith}
use Rattle.table_core.proofs.Entries.{puts_in-more}
use Rattle.table_core.proofs.lookup.puts.Goals as goal
use Rattle.table_core.proofs.lookup.puts.Goals.{then-has_row, else-has_row}

pub loop-i-preserved : goal.loop-i-preserved
loop-i-preserved c =
    let step = puts_in-more c.args.finals.now.entries c.loop-i.i c.has_row.result c.has_row.ensures in
    elim c.if-has_row.branch [
      | then-has_row w ↦ let one = rw w.if-has_row.true at step in (omega (arith, one), omega arith)
      | else-has_row w ↦ let none = rw w.if-has_row.false at step in (omega (arith, none), omega arith)
    ]
