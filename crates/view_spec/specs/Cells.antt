-- What is shown of a group or a row, each value under its column's text.
use Rattle.std.specs.Prelude.{◌≡◌, ℕ, ◌==◌, List, [], ◌∷◌, ◌++◌, map, codes, Bool, true, false, ◌||◌, Option, Some, None, if◌then◌else◌}
use Rattle.std.specs.Fmt.{signed_decimal}
use Rattle.std.specs.List.{flat_map}
use Rattle.value_core.specs.declared.value.Value.{Value}
use Rattle.cal_units.specs.DateText.{date_text}
use Rattle.cell_core.specs.declared.cell.Cell.{Cell}
use Rattle.cell_core.specs.declared.cell.Cell.TheVariants as cell
use Rattle.cell_core.specs.declared.cell.CellType.{CellType}
use Rattle.cell_core.specs.declared.schema.Column.{Column}
use Rattle.row_batch.specs.Checks.{cell_fault}
use Rattle.row_batch.specs.declared.batch.Pair.{Pair}
use Rattle.plan_types.specs.declared.plan.Plan.{Plan}
use Rattle.view_types.specs.Cells.{put_cell}
use Rattle.view_types.specs.declared.shown.HeaderColumn.{HeaderColumn}
use Rattle.view_spec.specs.Columns.{column_at, shown_kind}
use Rattle.view_spec.specs.Members.{split_of, within}
use Rattle.view_spec.specs.Places.{row_value, rows_value}

-- ---- texts

abbrev pub escaped_byte : ℕ → List ℕ
escaped_byte b = if (b == 92) || (b == 124) then 92 ∷ b ∷ [] else b ∷ []

abbrev pub part_text : Cell → List ℕ
part_text cell.Null = codes "\\-"
part_text (cell.Bool true) = codes "true"
part_text (cell.Bool false) = codes "false"
part_text (cell.Int n) = signed_decimal n
part_text (cell.Date day) = date_text day
part_text (cell.Moment ms) = signed_decimal ms
part_text (cell.Words s) = flat_map escaped_byte s

-- each split value before a bar, and then the column's name as it is
abbrev pub path_text : List Cell → List ℕ → List ℕ
path_text [] name = name
path_text (c ∷ cs) name = part_text c ++ 124 ∷ path_text cs name

-- each cell is null, or of the type at its place and in that type's range: dates and moments from 0001-01-01 to
-- 9999-12-31
abbrev pub HasKinds : List CellType → List Cell → Type 0
HasKinds [] [] = Unit {0}
HasKinds (k ∷ ks) (c ∷ cs) = (cell_fault k c ≡ None) × HasKinds ks cs
HasKinds kinds cells = ⊥

-- ---- columns of a view: a split path, and a column's number

abbrev pub text_at : List Column → Plan → List Cell → ℕ → List ℕ
text_at columns plan split i = path_text split (column_at columns plan i).name

abbrev pub head_at : List Column → Plan → List Cell → ℕ → HeaderColumn
head_at columns plan split i = record { text = text_at columns plan split i; kind = shown_kind columns plan i }

abbrev pub header_of : List Column → Plan → List (List Cell) → List HeaderColumn
header_of columns plan splits = flat_map (λ s. map (head_at columns plan s) plan.columns) splits

-- ---- cells

-- null values are left out
abbrev pub with_value : List (List ℕ × Value) → List ℕ → Option Value → List (List ℕ × Value)
with_value cells text None = cells
with_value cells text (Some value) = put_cell cells text value

abbrev pub with_columns : List Column → Plan → List Cell → (ℕ → Option Value) → List ℕ → List (List ℕ × Value) → List (List ℕ × Value)
with_columns columns plan split value_at [] cells = cells
with_columns columns plan split value_at (i ∷ is) cells =
    with_columns columns plan split value_at is (with_value cells (text_at columns plan split i) (value_at i))

-- under each split path, each shown column's aggregate over the members of that split
abbrev pub with_splits : List Column → Plan → List Pair → List (List Cell) → List (List ℕ × Value) → List (List ℕ × Value)
with_splits columns plan rows [] cells = cells
with_splits columns plan rows (s ∷ ss) cells =
    with_splits columns plan rows ss (with_columns columns plan s (rows_value columns plan (within plan s rows)) plan.columns cells)

abbrev pub cells_of_group : List Column → Plan → List (List Cell) → List Pair → List (List ℕ × Value)
cells_of_group columns plan splits rows = with_splits columns plan rows splits []

-- a row's own cells, under its own split path
abbrev pub cells_of_row : List Column → Plan → Pair → List (List ℕ × Value)
cells_of_row columns plan p = with_columns columns plan (split_of plan p) (row_value p) plan.columns []
