-- What a table of rows under keys keeps.
use Rattle.std.specs.Prelude.{◌≡◌, ℕ, ◌^◌, ◌<◌, ◌≤◌, pos, List, length, map, All, false, Some, slice_get, IsPermutation}
use Rattle.cell_core.specs.declared.cell.Cell.{Cell}
use Rattle.cell_core.specs.declared.cell.Cell.TheVariants.{Int}
use Rattle.cell_core.specs.declared.schema.Keeping.{Keeping}
use Rattle.cell_core.specs.declared.schema.Keeping.TheVariants.{Indexed, Limited, Free}
use Rattle.cell_core.specs.Schemas.{SchemaData}
use Rattle.plain_data.specs.Distinct.{AreDistinct}
use Rattle.row_batch.specs.Batches.{Store, put_batch}
use Rattle.row_batch.specs.Changes.{FitsColumns, max_rows}
use Rattle.row_batch.specs.Checks.{is_null}
use Rattle.row_batch.specs.declared.batch.Batch.{Batch}
use Rattle.row_batch.specs.declared.batch.Pair.{Pair}

abbrev pub keys_of_rows : List Pair → List Cell
keys_of_rows pairs = map (λ p. p.key) pairs

-- the key is a running number that was given before
abbrev pub IsNumberBelow : ℕ → Cell → Type 0
IsNumberBelow n (Int (pos k)) = k < n
IsNumberBelow n other = ⊥

-- where rows are kept under their running number, each key was given before
abbrev pub IsCounted : Keeping → Store → Type 0
IsCounted (Indexed column) s = Unit {0}
IsCounted (Limited slots) s = Unit {0}
IsCounted Free s = All (IsNumberBelow s.number) (keys_of_rows s.pairs)

-- a row's key is its own cell in the index column, and isn't null; or its slot; or its running number
abbrev pub IsKeyOf : Keeping → ℕ → Pair → Type 0
IsKeyOf (Indexed column) number p = (slice_get p.row column ≡ Some p.key) × (is_null p.key ≡ false)
IsKeyOf (Limited slots) number p = IsNumberBelow slots p.key
IsKeyOf Free number p = IsNumberBelow number p.key

abbrev pub IsPairOf : SchemaData → ℕ → Pair → Type 0
IsPairOf schema number p = FitsColumns schema.columns p.row × IsKeyOf schema.keeping number p

-- what every table keeps
pub record IsTable (schema : SchemaData) (s : Store) : Type 0 where
  pub distinct : AreDistinct (keys_of_rows s.pairs)
  pub few : length s.pairs ≤ max_rows
  pub counted : s.number < 2 ^ 63
  pub pairs : All (IsPairOf schema s.number) s.pairs

-- the same rows, in any order
pub record IsReordered (s t : Store) : Type 0 where
  pub pairs : IsPermutation s.pairs t.pairs
  pub number : t.number ≡ s.number

-- the order of rows does not matter to a batch
abbrev pub OrderDoesNotMatter : SchemaData → Batch → Type 0
OrderDoesNotMatter schema b = (s t : Store) → AreDistinct (keys_of_rows s.pairs) → IsCounted schema.keeping s → IsReordered s t
    → IsReordered (put_batch schema s b) (put_batch schema t b)
