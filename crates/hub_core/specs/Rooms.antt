-- How many rows a table may come to, as it is counted.
use Rattle.std.specs.Prelude.{◌≡◌, ℕ, ◌+◌, nat_lt, List, [], ◌∷◌, ◌++◌, length, not, ◌&&◌, Option, Some, None, if◌then◌else◌}
use Rattle.std.specs.BTreeMap.{BTreeMap}
use Rattle.std.specs.List.{list_any}
use Rattle.cell_core.specs.Limits.{max_rows}
use Rattle.cell_core.specs.Cells.{same_cell}
use Rattle.cell_core.specs.declared.cell.Cell.{Cell}
use Rattle.row_batch.specs.declared.batch.Batch.{Batch}
use Rattle.hub_ports.specs.Ports.{PortsData, waiting_on}
use Rattle.hub_spec.specs.Room.{different, rows_of_all}
use Rattle.table_core.specs.Tables.{TableData}

-- more than a table has
abbrev pub over : ℕ → Option ℕ
over would = if nat_lt max_rows would then Some would else None

-- of a table with the batches that wait and one more
abbrev pub room_taken : TableData → PortsData → Batch → ℕ
room_taken t kept batch = rows_of_all t.schema.keeping t.store.pairs (waiting_on kept.live ++ batch ∷ [])

-- these are the keys, each once, that stand in a list and that no row has
pub record IsCounted (rows : List Cell) (found : BTreeMap Cell (Unit {0})) (keys : List Cell) : Type 0 where
  pub count : length rows + length found.entries ≡ different (rows ++ keys)
  pub has : (k : Cell) → list_any (λ e. same_cell k e.0) found.entries ≡ (not (list_any (same_cell k) rows) && list_any (same_cell k) keys)
