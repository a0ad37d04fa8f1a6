-- The table's rows: what the applied batches made of an empty table, and nothing else.
use Rattle.std.specs.Prelude.{List, [], fold, unwrap_or}
use Rattle.cell_core.specs.Schemas.{SchemaData}
use Rattle.cell_core.specs.declared.schema.Keeping.TheVariants.{Free}
use Rattle.row_batch.specs.Batches.{Store, empty_store, put_batch}
use Rattle.row_batch.specs.declared.batch.Pair.{Pair}
use Rattle.hub_spec.specs.Past.{PastStep}
use Rattle.hub_spec.specs.Ports.{schema, Applied, batches_applied}

abbrev pub no_schema : SchemaData
no_schema = record { columns = []; keeping = Free }

abbrev pub schema_or_none : List PastStep → SchemaData
schema_or_none past = unwrap_or (schema past) no_schema

abbrev pub put_applied : SchemaData → Store → Applied → Store
put_applied made store a = put_batch made store a.batch

abbrev pub store : List PastStep → Store
store past = fold (put_applied (schema_or_none past)) empty_store (batches_applied past)

abbrev pub rows : List PastStep → List Pair
rows past = (store past).pairs
