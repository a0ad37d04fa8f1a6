-- The cells of a kept row are ones that the aggregates of a plan with groups take.
use Rattle.std.proofs.Common.{◌≡◌, ℕ, zero, suc, Bool, true, false, List, [], ◌∷◌, ◌++◌, map, All, Some, None, refl}
use Rattle.std.specs.Prelude.{slice_index_or}
use Rattle.std.proofs.lemmas.List.Elements.{All-head, All-tail, All-weaker}
use Rattle.cell_core.specs.Limits.{is_integer}
use Rattle.cell_core.specs.declared.cell.Cell.{Cell}
use Rattle.cell_core.specs.declared.cell.Cell.TheVariants as cell
use Rattle.cell_core.specs.declared.cell.CellType.{CellType}
use Rattle.cell_core.specs.declared.cell.CellType.TheVariants as kinds
use Rattle.cell_core.specs.declared.schema.Column.{Column}
use Rattle.row_batch.specs.Changes.{FitsColumns}
use Rattle.row_batch.specs.Checks.{cell_fault, unless_in}
use Rattle.row_batch.specs.declared.refused.RowCause.{RowCause}
use Rattle.plan_types.specs.declared.aggregate.AggName.{AggName}
use Rattle.plan_types.specs.declared.plan.Expression.{Expression}
use Rattle.plan_types.specs.declared.plan.Plan.{Plan}
use Rattle.agg_core.specs.Types.{IsTaken, takes}
use Rattle.expr_spec.specs.TreeViews.{tree_view}
use Rattle.expr_spec.specs.Typing.{IsCheckedTree}
use Rattle.expr_spec.specs.Values.{value_in}
use Rattle.expr_spec.proofs.FitLemmas as fit
use Rattle.plan_types.specs.Columns.{all_columns, expression_column}
use Rattle.view_spec.specs.Columns.{aggregate_at, column_at, no_column}
use Rattle.view_spec.specs.Filters.{cell_in}
use Rattle.view_spec.specs.Kept.{full_row}
use Rattle.pivot_tree.specs.Columns.{used_columns}
use Rattle.group_show.specs.Plans.{IsGroupedPlan}

fits_both : (cs ds : List Column) (r q : List Cell) → FitsColumns cs r → FitsColumns ds q → FitsColumns (cs ++ ds) (r ++ q)
fits_both [] ds [] q h i = i
fits_both (c ∷ cs) ds (x ∷ r) q h i = (h.0, fits_both cs ds r q h.1 i)
fits_both [] ds (x ∷ r) q h i = absurd h
fits_both (c ∷ cs) ds [] q h i = absurd h

fits_trees : (columns : List Column) (row : List Cell) (es : List Expression) → FitsColumns columns row → All (λ e. IsCheckedTree columns (tree_view e.tree) e.kind) es
    → FitsColumns (map expression_column es) (map (λ e. value_in (tree_view e.tree) row) es)
fits_trees columns row [] h all = tt
fits_trees columns row (e ∷ es) h all =
    let checked = All-head (λ (e : Expression). IsCheckedTree columns (tree_view e.tree) e.kind) e es all in (
      fit.value_in columns row (tree_view e.tree) e.kind h checked.typed checked.numbers,
      fits_trees columns row es h (All-tail (λ (e : Expression). IsCheckedTree columns (tree_view e.tree) e.kind) e es all),
    )

fits_at : (columns : List Column) (row : List Cell) (i : ℕ) → FitsColumns columns row → cell_fault (slice_index_or columns i no_column).kind (cell_in row i) ≡ None
fits_at [] [] i h = refl
fits_at (c ∷ cs) (x ∷ r) zero h = h.0
fits_at (c ∷ cs) (x ∷ r) (suc i) h = fits_at cs r i h.1
fits_at [] (x ∷ r) i h = absurd h
fits_at (c ∷ cs) [] i h = absurd h

in_range : (b : Bool) (why : RowCause) → unless_in b why ≡ None → b ≡ true
in_range true why h = refl
in_range false why h = absurd (let wrong : Some why ≡ None = h in cc)

-- a cell of a type that the aggregate takes
taken_cell : (name : AggName) (kind : CellType) (c : Cell) → takes name kind ≡ true → cell_fault kind c ≡ None → IsTaken name c
taken_cell name kind cell.Null t h = tt
taken_cell name kinds.Integer (cell.Int n) t h = (t, in_range (is_integer n) _ h)
taken_cell name kinds.Boolean (cell.Bool b) t h = t
taken_cell name kinds.Date (cell.Date d) t h = t
taken_cell name kinds.Moment (cell.Moment m) t h = t
taken_cell name kinds.Words (cell.Words s) t h = t
taken_cell name _ _ t h = absurd (cc)

pub taken_cells : (columns : List Column) (plan : Plan) (row : List Cell) → IsGroupedPlan columns plan → FitsColumns columns row
    → All (λ i. IsTaken (aggregate_at columns plan i) (cell_in (full_row plan row) i)) (used_columns plan)
taken_cells columns plan row fits h =
    let full : FitsColumns (all_columns columns plan.expressions) (full_row plan row) =
    fits_both columns (map expression_column plan.expressions) row (map (λ (e : Expression). value_in (tree_view e.tree) row) plan.expressions) h (fits_trees columns row plan.expressions h fits.trees) in
    All-weaker (λ i. takes (aggregate_at columns plan i) (column_at columns plan i).kind ≡ true) (λ i. IsTaken (aggregate_at columns plan i) (cell_in (full_row plan row) i))
    (λ i t. taken_cell (aggregate_at columns plan i) (column_at columns plan i).kind (cell_in (full_row plan row) i) t (fits_at (all_columns columns plan.expressions) (full_row plan row) i full))
    (used_columns plan) fits.taken
