-- A column that isn't there.
use Rattle.std.proofs.Common.{◌≡◌, ℕ, zero, suc, ◌-◌, ◌≤◌, List, [], ◌∷◌, map, length, None, refl, ◌∙◌}
use Rattle.std.specs.Prelude.{slice_get, slice_index_or}
use Rattle.std.proofs.lemmas.List.{get_or-append_right}
use Rattle.cell_core.specs.declared.schema.Column.{Column}
use Rattle.plan_types.specs.Columns.{expression_column}
use Rattle.plan_types.specs.declared.plan.Expression.{Expression}
use Rattle.plan_types.specs.declared.plan.Plan.{Plan}
use Rattle.view_spec.specs.Columns.{column_at, no_column}

none_past : (es : List Expression) (k : ℕ) → None ≡ slice_get es k → slice_index_or (map expression_column es) k no_column ≡ no_column
none_past [] k h = refl
none_past (e ∷ es) zero h = absurd (cc)
none_past (e ∷ es) (suc k) h = none_past es k h

pub column_past : (columns : List Column) (plan : Plan) (i : ℕ) → length columns ≤ i → None ≡ slice_get plan.expressions (i - length columns) → column_at columns plan i ≡ no_column
column_past columns plan i far h =
    get_or-append_right columns (map expression_column plan.expressions) (length columns) i no_column refl far ∙ none_past plan.expressions (i - length columns) h
