-- The rows that a live flat view keeps, and what is shown of them.
use Rattle.std.specs.Prelude.{◌≡◌, ℕ, List, [], ◌∷◌, Bool, false, cond, map, Option, Some, None, is_some, option_map}
use Rattle.std.specs.Map.{lookup}
use Rattle.value_core.specs.declared.value.Value.{Value}
use Rattle.cell_core.specs.Cells.{value_of}
use Rattle.cell_core.specs.declared.cell.Cell.{Cell}
use Rattle.row_batch.specs.Batches.{pair_of}
use Rattle.row_batch.specs.Changes.{row_at}
use Rattle.row_batch.specs.declared.batch.Pair.{Pair}
use Rattle.row_batch.specs.declared.change.RowChange.{RowChange}
use Rattle.plan_types.specs.declared.plan.Plan.{Plan}
use Rattle.view_types.specs.Keys.{same_key}
use Rattle.view_types.specs.declared.key.ViewKey.{ViewKey}
use Rattle.view_types.specs.declared.key.ViewKey.TheVariants.{Row, Group}
use Rattle.view_types.specs.declared.shown.HeaderColumn.{HeaderColumn}
use Rattle.view_types.specs.declared.shown.ShownRow.{ShownRow}
use Rattle.delta_core.specs.KeySets.{is_among}
use Rattle.delta_core.specs.Rows.{at_key}
use Rattle.delta_core.specs.declared.touched.Touch.{Touch}
use Rattle.view_spec.specs.Cells.{with_value}
use Rattle.view_spec.specs.Entries.{kept_at}
use Rattle.view_spec.specs.Filters.{cell_in}
use Rattle.view_spec.specs.Members.{split_of}
use Rattle.view_spec.specs.Places.{place_of_row}
use Rattle.view_spec.specs.Touching.{same_found}
use Rattle.view_spec.specs.declared.placed.PlacedRow.{PlacedRow}
use Rattle.live_list.specs.Live.{live_key}
use Rattle.flat_live.specs.FlatRows.{FlatRow, is_counted}

-- ---- what is shown of it

-- the shown columns under each split path
abbrev pub Heads : Type 0
Heads = List Cell → List HeaderColumn

abbrev pub cells_under : List HeaderColumn → List Cell → List (List ℕ × Value) → List (List ℕ × Value)
cells_under [] cells shown = shown
cells_under (h ∷ hs) [] shown = shown
cells_under (h ∷ hs) (c ∷ cells) shown = cells_under hs cells (with_value shown h.text (value_of c))

-- each row under its own split path
abbrev pub shown_row : Heads → FlatRow → ShownRow
shown_row heads e = record { key = e.1.key; mark = false; cells = cells_under (heads e.1.value.split) e.1.value.cells [] }

abbrev pub as_placed : Heads → FlatRow → PlacedRow
as_placed heads e = record { place = e.0; row = shown_row heads e }

-- ---- what is kept of a row

abbrev pub live_row : Plan → Pair → FlatRow
live_row plan p = (place_of_row plan p, record { key = Row p.key; value = record { split = split_of plan p; cells = map (cell_in p.row) plan.columns } })

-- of a row of the table, where the plan keeps it
abbrev pub live_at : Plan → Option Pair → Option FlatRow
live_at plan o = option_map (live_row plan) (kept_at plan o)

-- ---- changes: the last one at each key counts

abbrev pub changed_keys : List RowChange → List ViewKey
changed_keys changes = map (λ (c : RowChange). Row c.key) changes

abbrev pub live_of : Plan → RowChange → Option FlatRow
live_of plan c = live_at plan (option_map (pair_of c.key) c.new)

-- what stands under a key after changes of some rows
abbrev pub settled : Plan → List FlatRow → List RowChange → ViewKey → Option FlatRow
settled plan rows [] k = at_key live_key k rows
settled plan rows (c ∷ cs) k =
    cond (is_among (changed_keys cs) k) (settled plan rows cs k) (cond (same_key (Row c.key) k) (live_of plan c) (settled plan rows cs k))

-- what is told of a key, with each row shown under its own columns, where what is shown differs
abbrev pub told : Heads → Heads → Option FlatRow → Option FlatRow → Option Touch
told first last was now = cond (same_found (option_map (as_placed first) was) (option_map (as_placed last) now)) None (Some (record { was_shown = is_some was }))

-- the last changes at these keys were acted on: the keys seen, the rows now, the keys touched, and whether a split path
-- may have come or gone
pub record IsSettled (plan : Plan) (heads : Heads) (first : List FlatRow) (changes : List RowChange) (seen_keys : List (ViewKey × Bool)) (now : List FlatRow) (noted : List (ViewKey × Touch)) (moved : Bool) : Type 0 where
  pub seen : (k : ViewKey) → is_some (lookup (same_key k) seen_keys) ≡ is_among (changed_keys changes) k
  pub rows : (k : ViewKey) → at_key live_key k now ≡ settled plan first changes k
  pub touched : (k : ViewKey) → lookup (same_key k) noted ≡ told heads heads (at_key live_key k first) (settled plan first changes k)
  pub splits : moved ≡ false → (path : List Cell) → is_counted first path ≡ is_counted now path

-- ---- the rows of a table

-- what is kept under a key
abbrev pub live_under : Plan → List Pair → ViewKey → Option FlatRow
live_under plan pairs (Row key) = live_at plan (option_map (pair_of key) (row_at pairs key))
live_under plan pairs (Group path) = None

pub record IsKeptOf (plan : Plan) (pairs : List Pair) (now : List FlatRow) : Type 0 where
  pub rows : (k : ViewKey) → at_key live_key k now ≡ live_under plan pairs k

-- ---- two lists, each under its columns

-- told of the keys that the first rows of a list have
pub record TellsOld (first last : Heads) (was now met : List FlatRow) (noted : List (ViewKey × Touch)) : Type 0 where
  pub each : (k : ViewKey) → lookup (same_key k) noted ≡ cond (is_some (at_key live_key k met)) (told first last (at_key live_key k was) (at_key live_key k now)) None

pub record TellsNew (first last : Heads) (was now met : List FlatRow) (noted : List (ViewKey × Touch)) : Type 0 where
  pub each : (k : ViewKey) → lookup (same_key k) noted
      ≡ cond (is_some (at_key live_key k met)) (told first last (at_key live_key k was) (at_key live_key k now)) (cond (is_some (at_key live_key k was)) (told first last (at_key live_key k was) (at_key live_key k now)) None)
