use Rattle.std.proofs.Common.{◌≡◌, [], take, drop}
use Rattle.csv_rows.specs.Reading.{twice_from}
use Rattle.csv_rows.proofs.NameLemmas.{Holds}
use Rattle.csv_rows.proofs.rows.twice.Given as goal

abbrev pub invariant-loop-i : goal.invariant-loop-i
invariant-loop-i l = record {
  same : twice_from (take l.i l.names) l.i (drop l.i l.names) ≡ twice_from [] 0 l.names;
  held : Holds l.found (take l.i l.names);
}
