-- The batches that a table takes.
use Rattle.std.specs.Prelude.{List, All}
use Rattle.std.proofs.Props.{props}
use Rattle.cell_core.specs.Schemas.{SchemaData}
use Rattle.cell_core.specs.declared.schema.Keeping.{Keeping}
use Rattle.cell_core.specs.declared.schema.Keeping.TheVariants.{Indexed, Limited, Free}
use Rattle.row_batch.specs.Checks.{IsChecked, IsIndexed, IsShaped}
use Rattle.row_batch.specs.declared.batch.Batch.{Batch}
use Rattle.row_batch.specs.declared.batch.Batch.TheVariants as batch
use Rattle.hub_ports.specs.declared.ports.Port.{Port}

-- the table takes each batch that waits on a port: nothing is to be said against it
abbrev pub AreTaken : SchemaData → List Port → Type 0
AreTaken schema live = All (λ p. All (IsChecked schema) p.queue.waiting) live

-- ---- there is one proof of it at most

IsIndexed-prop : (keeping : Keeping) → IsProp (IsIndexed keeping)
IsIndexed-prop (Indexed column) = hlevel props
IsIndexed-prop (Limited slots) = hlevel props
IsIndexed-prop Free = hlevel props

IsShaped-prop : (schema : SchemaData) (b : Batch) → IsProp (IsShaped schema b)
IsShaped-prop schema (batch.Update patches) = hlevel props
IsShaped-prop schema (batch.Remove keys) = IsIndexed-prop schema.keeping
IsShaped-prop schema batch.Clear = hlevel props
IsShaped-prop schema (batch.Replace patches) = hlevel props

IsChecked-prop : (schema : SchemaData) (b : Batch) → IsProp (IsChecked schema b)
IsChecked-prop schema b = hlevel (props, IsShaped-prop)

pub AreTaken-prop : (schema : SchemaData) (live : List Port) → IsProp (AreTaken schema live)
AreTaken-prop schema live = hlevel (props, IsChecked-prop)
