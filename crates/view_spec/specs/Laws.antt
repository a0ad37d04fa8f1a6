-- Laws of views.
use Rattle.std.specs.Prelude.{◌≡◌, ℕ, List, map, All, Bool, true, false, not, ◌||◌, is_some, IsPermutation}
use Rattle.std.specs.List.{list_any}
use Rattle.std.specs.List.Sorted.{IsStrictlySortedBy}
use Rattle.plain_data.specs.Distinct.{AreDistinct}
use Rattle.cell_core.specs.declared.cell.Cell.{Cell}
use Rattle.cell_core.specs.declared.cell.CellType.{CellType}
use Rattle.cell_core.specs.declared.schema.Column.{Column}
use Rattle.row_batch.specs.Changes.{FitRows, FitsColumns}
use Rattle.row_batch.specs.Tables.{keys_of_rows}
use Rattle.row_batch.specs.declared.batch.Pair.{Pair}
use Rattle.row_batch.specs.declared.change.RowChange.{RowChange}
use Rattle.expr_spec.specs.TreeViews.{tree_view}
use Rattle.expr_spec.specs.Typing.{IsCheckedTree}
use Rattle.plan_types.specs.declared.plan.Plan.{Plan}
use Rattle.view_types.specs.Rows.{AreShownRows}
use Rattle.view_types.specs.declared.key.ViewKey.{ViewKey}
use Rattle.view_types.specs.declared.key.ViewKey.TheVariants.{Group}
use Rattle.delta_core.specs.Rows.{at_key}
use Rattle.view_spec.specs.Cells.{HasKinds, path_text}
use Rattle.view_spec.specs.Columns.{column_at, is_flat}
use Rattle.view_spec.specs.Entries.{entry}
use Rattle.view_spec.specs.Kept.{kept}
use Rattle.view_spec.specs.Members.{members, splits}
use Rattle.view_spec.specs.Paths.{same_path}
use Rattle.view_spec.specs.Steps.{KeepsRanks, PassesGroup, ShowsCount, ShowsNoCount, changed_side}
use Rattle.view_spec.specs.Touching.{is_touched, key_of}
use Rattle.view_spec.specs.Views.{Side, by_place, placed, view}

-- the rows under each key once
abbrev pub HasKeys : Side → Type 0
HasKeys s = AreDistinct (keys_of_rows s.pairs)

-- each row has a cell for each column, null or of the column's type and in its range, and each expression is a checked
-- tree of its type
pub record IsTyped (s : Side) : Type 0 where
  pub rows : All (λ p. FitsColumns s.columns p.row) s.pairs
  pub trees : All (λ e. IsCheckedTree s.columns (tree_view e.tree) e.kind) s.plan.expressions

-- the columns that the plan shows have names that differ
abbrev pub NamesDiffer : List Column → Plan → Type 0
NamesDiffer columns plan = AreDistinct (map (λ i. (column_at columns plan i).name) plan.columns)

-- a kept row's split cells are these
abbrev pub has_split : Side → List Cell → Bool
has_split s split = list_any (same_path split) (splits s.plan (kept s.plan s.pairs))

-- a view's list ascends strictly by place
abbrev pub ViewsAscend : Type 0
ViewsAscend = (s : Side) → HasKeys s → IsStrictlySortedBy by_place (placed s)

-- no key stands twice in it, and no row has a mark
abbrev pub KeysDiffer : Type 0
KeysDiffer = (s : Side) → HasKeys s → AreShownRows (view s).rows

-- what stands under a key is told from the key
abbrev pub KeysAreTold : Type 0
KeysAreTold = (s : Side) (k : ViewKey) → HasKeys s → at_key key_of k (placed s) ≡ entry s k

-- the order of a table's rows does not matter
abbrev pub OrderOfRowsIsFree : Type 0
OrderOfRowsIsFree = (s : Side) (more : List Pair) → HasKeys s → AreDistinct (keys_of_rows more) → IsPermutation s.pairs more
    → view s ≡ view (record s { pairs = more })

-- a group in which no changed row counts, before or after, keeps its members
abbrev pub MembersStay : Type 0
MembersStay = (s : Side) (changes : List RowChange) (path : List Cell) → HasKeys s → FitRows s.pairs changes → PassesGroup s changes path
    → members s.plan (kept s.plan (changed_side s changes).pairs) path ≡ members s.plan (kept s.plan s.pairs) path

-- and is not touched, where no group on the way to it has other ranks, and the splits stay
abbrev pub StepsAreLocal : Type 0
StepsAreLocal = (s : Side) (changes : List RowChange) (path : List Cell) → is_flat s.plan ≡ false → HasKeys s → FitRows s.pairs changes → PassesGroup s changes path
    → KeepsRanks s changes path → splits s.plan (kept s.plan (changed_side s changes).pairs) ≡ splits s.plan (kept s.plan s.pairs)
    → is_touched (placed s) (placed (changed_side s changes)) (Group path) ≡ false

-- where no count is shown, new and gone splits make no difference to it
abbrev pub SplitsAreLocal : Type 0
SplitsAreLocal = (s : Side) (changes : List RowChange) (path : List Cell) → is_flat s.plan ≡ false → ShowsNoCount s.columns s.plan → HasKeys s → FitRows s.pairs changes
    → PassesGroup s changes path → KeepsRanks s changes path → is_touched (placed s) (placed (changed_side s changes)) (Group path) ≡ false

-- two columns of one header with one text have one split path and one name
abbrev pub TextsAreTold : Type 0
TextsAreTold = (kinds : List CellType) (s t : List Cell) (m n : List ℕ) → HasKinds kinds s → HasKinds kinds t
    → path_text s m ≡ path_text t n → (s ≡ t) × (m ≡ n)

-- so the texts of a header differ, where the names of the shown columns do
abbrev pub TextsDiffer : Type 0
TextsDiffer = (s : Side) → IsTyped s → NamesDiffer s.columns s.plan → AreDistinct (map (λ h. h.text) (view s).header)

-- where a count is shown, a new or gone split touches every group that is shown before or after
abbrev pub SplitsReachAll : Type 0
SplitsReachAll = (s : Side) (changes : List RowChange) (split path : List Cell) → is_flat s.plan ≡ false → HasKeys s → IsTyped s → IsTyped (changed_side s changes)
    → ShowsCount s.columns s.plan → has_split (changed_side s changes) split ≡ not (has_split s split)
    → (is_some (entry s (Group path)) || is_some (entry (changed_side s changes) (Group path))) ≡ true
    → is_touched (placed s) (placed (changed_side s changes)) (Group path) ≡ true
