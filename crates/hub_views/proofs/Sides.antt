-- What a view of a table shows is what is shown of the history's rows, in whatever order the table has them.
use Rattle.std.proofs.Common.{◌≡◌, ℕ, List, Option, ap, ◌∙◌}
use Rattle.std.specs.Prelude.{unwrap_or}
use Rattle.plain_data.specs.Distinct.{AreDistinct}
use Rattle.cell_core.specs.Schemas.{SchemaData}
use Rattle.cell_core.specs.declared.schema.Column.{Column}
use Rattle.row_batch.specs.Tables.{keys_of_rows}
use Rattle.row_batch.proofs.Steps.{distinct_reordered}
use Rattle.table_core.specs.Tables.{TableData}
use Rattle.view_spec.specs.Views.{Side, placed, view}
use Rattle.view_spec.proofs.LiveLaws.{placed-IsPermutation, view-IsPermutation}
use Rattle.view_kept.specs.Steps.{side_of}
use Rattle.hub_spec.specs.Past.{PastStep}
use Rattle.hub_spec.specs.HeldViews.{HeldView, side}
use Rattle.hub_spec.specs.Rows.{no_schema, rows}
use Rattle.hub_spec.proofs.Folding.{distinct_rows}
use Rattle.hub_views.specs.Tables.{HoldsTable}

-- no key stands twice in the table
pub table_keys : (t : TableData) (number : ℕ) (past : List PastStep) → HoldsTable t number past → AreDistinct (keys_of_rows t.store.pairs)
table_keys t number past h = distinct_reordered (rows past) t.store.pairs h.rows.pairs (distinct_rows past)

-- the columns are the table's
abbrev at_columns : TableData → HeldView → List Column → Side
at_columns t v columns = record { columns = columns; plan = v.plan; opening = v.opening; pairs = t.store.pairs }

same_side : (t : TableData) (number : ℕ) (past : List PastStep) (v : HeldView) → HoldsTable t number past → record (side past v) { pairs = t.store.pairs } ≡ side_of v.plan v.opening t
same_side t number past v h = ap (λ (o : Option SchemaData). at_columns t v (unwrap_or o no_schema).columns) h.schema

pub table_view : (t : TableData) (number : ℕ) (past : List PastStep) → HoldsTable t number past → (v : HeldView) → view (side past v) ≡ view (side_of v.plan v.opening t)
table_view t number past h v =
    view-IsPermutation (side past v) t.store.pairs (distinct_rows past) (table_keys t number past h) h.rows.pairs ∙ ap view (same_side t number past v h)

pub table_placed : (t : TableData) (number : ℕ) (past : List PastStep) → HoldsTable t number past → (v : HeldView) → placed (side past v) ≡ placed (side_of v.plan v.opening t)
table_placed t number past h v =
    placed-IsPermutation (side past v) t.store.pairs (distinct_rows past) (table_keys t number past h) h.rows.pairs ∙ ap placed (same_side t number past v h)
