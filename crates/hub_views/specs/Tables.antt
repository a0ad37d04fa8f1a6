-- Which table a history leaves.
use Rattle.std.specs.Prelude.{◌≡◌, ℕ, List, Option, Some}
use Rattle.cell_core.specs.Schemas.{SchemaData}
use Rattle.row_batch.specs.Batches.{Store}
use Rattle.row_batch.specs.Tables.{IsReordered}
use Rattle.table_core.specs.Tables.{TableData}
use Rattle.hub_spec.specs.Past.{PastStep}
use Rattle.hub_spec.specs.Ports as ports
use Rattle.hub_spec.specs.Rows as rows

-- its schema, its rows in any order, and how many batches were applied to it
pub record IsTable (t : TableData) (count : ℕ) (made : Option SchemaData) (store : Store) (version : ℕ) : Type 0 where
  pub schema : made ≡ Some t.schema
  pub rows : IsReordered store t.store
  pub number : count ≡ version

abbrev pub HoldsTable : TableData → ℕ → List PastStep → Type 0
HoldsTable t count past = IsTable t count (ports.schema past) (rows.store past) (ports.version past)
