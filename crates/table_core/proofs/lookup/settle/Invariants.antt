use Rattle.std.proofs.Common.{◌≡◌, ◌≤◌}
use Rattle.std.specs.Map.{keys_of}
use Rattle.plain_data.specs.Distinct.{AreDistinct}
use Rattle.cell_core.specs.declared.cell.Cell.{Cell}
use Rattle.indexmap.specs.IndexMap.{spare}
use Rattle.table_core.specs.Lookups.{settled_row, puts_in}
use Rattle.table_core.proofs.lookup.settle.Given as goal

abbrev pub invariant-loop-key : goal.invariant-loop-key
invariant-loop-key l = record {
  rows : (q : Cell) → settled_row l.key-iterator l.rows.entries q ≡ settled_row l.fn.finals.entries l.fn.rows.entries q;
  distinct : AreDistinct (keys_of l.key-iterator);
  unique : AreDistinct (keys_of l.rows.entries);
  room : puts_in l.key-iterator ≤ spare l.rows;
}
