-- Whether the table has room for a batch more.
use Rattle.std.specs.Prelude.{ℕ, ◌+◌, List, [], ◌∷◌, ◌++◌, length, map, sum_by, if◌then◌else◌}
use Rattle.std.specs.List.{list_any, flat_map}
use Rattle.cell_core.specs.Cells.{same_cell}
use Rattle.cell_core.specs.declared.cell.Cell.{Cell}
use Rattle.cell_core.specs.declared.schema.Keeping.{Keeping}
use Rattle.cell_core.specs.declared.schema.Keeping.TheVariants.{Indexed, Limited, Free}
use Rattle.row_batch.specs.Batches.{rows_in, key_in}
use Rattle.row_batch.specs.Tables.{keys_of_rows}
use Rattle.row_batch.specs.declared.batch.Batch.{Batch}
use Rattle.row_batch.specs.declared.batch.Batch.TheVariants as batch
use Rattle.row_batch.specs.declared.batch.Pair.{Pair}
use Rattle.hub_spec.specs.Past.{PastStep}
use Rattle.hub_spec.specs.Ports.{all_waiting}
use Rattle.hub_spec.specs.Rows.{rows}

-- how many different keys there are
abbrev pub different : List Cell → ℕ
different [] = 0
different (k ∷ ks) = if list_any (same_cell k) ks then different ks else different ks + 1

-- the keys under which a batch puts rows, by the column that is the index
abbrev pub keys_put : ℕ → Batch → List Cell
keys_put column (batch.Update patches) = map (key_in column) patches
keys_put column (batch.Remove keys) = []
keys_put column batch.Clear = []
keys_put column (batch.Replace patches) = map (key_in column) patches

-- the number of rows that these rows and batches may come to: on a table with an index the different
-- keys among them, and without index or limit all rows in sum; a table with a limit always has room
abbrev pub rows_of_all : Keeping → List Pair → List Batch → ℕ
rows_of_all (Indexed column) pairs batches = different (keys_of_rows pairs ++ flat_map (keys_put column) batches)
rows_of_all (Limited slots) pairs batches = 0
rows_of_all Free pairs batches = length pairs + sum_by rows_in batches

-- the rows that the table would have with the waiting batches and one more
abbrev pub rows_with : Keeping → List PastStep → Batch → ℕ
rows_with keeping past batch = rows_of_all keeping (rows past) (all_waiting past ++ batch ∷ [])
