use Rattle.std.proofs.Common.{◌-◌, drop, length}
use Rattle.view_columns.specs.Headers.{under}
use Rattle.flat_live.specs.Rows.{IsSettled}
use Rattle.flat_live.proofs.changes.settle_all.Given as goal

abbrev pub invariant-loop-i : goal.invariant-loop-i
invariant-loop-i l = IsSettled l.plan (under l.columns l.plan) l.initial.rows (drop (length l.changes - l.i) l.changes) l.seen l.rows l.touched.keys l.touched.header
