-- A header, split path by split path.
use Rattle.std.proofs.Common.{◌≡◌, List, [], ◌∷◌, ◌++◌, refl, ap, ◌∙◌}
use Rattle.std.specs.List.{flat_map}
use Rattle.cell_core.specs.declared.cell.Cell.{Cell}
use Rattle.cell_core.specs.declared.schema.Column.{Column}
use Rattle.plan_types.specs.declared.plan.Plan.{Plan}
use Rattle.view_spec.specs.Cells.{header_of}
use Rattle.view_columns.specs.Headers.{each_under, under}
use Rattle.view_columns.specs.declared.headers.SplitColumns.{SplitColumns}

joined : (columns : List Column) (plan : Plan) (paths : List (List Cell)) → flat_map (λ (s : SplitColumns). s.columns) (each_under columns plan paths) ≡ header_of columns plan paths
joined columns plan [] = refl
joined columns plan (path ∷ paths) = ap (λ hs. under columns plan path ++ hs) (joined columns plan paths)

pub whole_header : (columns : List Column) (plan : Plan) (paths : List (List Cell)) (splits : List SplitColumns) → splits ≡ each_under columns plan paths
    → flat_map (λ (s : SplitColumns). s.columns) splits ≡ header_of columns plan paths
whole_header columns plan paths splits same = ap (flat_map (λ (s : SplitColumns). s.columns)) same ∙ joined columns plan paths
