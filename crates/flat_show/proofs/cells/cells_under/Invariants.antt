use Rattle.std.proofs.Common.{◌≡◌, [], drop}
use Rattle.cell_core.specs.Cells.{value_of}
use Rattle.view_spec.specs.Cells.{with_columns}
use Rattle.view_spec.specs.Filters.{cell_in}
use Rattle.flat_show.proofs.cells.cells_under.Given as goal

-- the values so far, and those of the columns that are left, are all values
abbrev pub invariant-loop-column : goal.invariant-loop-column
invariant-loop-column l =
    with_columns l.schema.columns l.plan l.split (λ i. value_of (cell_in l.row i)) (drop l.column-index l.column-items) l.cells
    ≡ with_columns l.schema.columns l.plan l.split (λ i. value_of (cell_in l.row i)) l.column-items []
