use Rattle.std.proofs.Common.{◌≡◌, ◌++◌}
use Rattle.std.specs.Vec.Iter.{into_iter_items}
use Rattle.cell_core.specs.Schemas.{typed_columns}
use Rattle.cell_core.proofs.schema.typed.Given as goal

abbrev pub invariant-loop-name : goal.invariant-loop-name
invariant-loop-name l = l.made.items ++ typed_columns (into_iter_items l.name-iterator) ≡ typed_columns l.fn.columns
