-- Laws of the steps of a live view with groups.
use Rattle.std.specs.Prelude.{◌≡◌, ◌⊎◌, ℕ, ◌+◌, ◌*◌, ◌<◌, ◌≤◌, false, List, All, length, Option}
use Rattle.std.specs.List.{IsDistinct}
use Rattle.std.specs.List.Sorted.{IsStrictlySortedBy}
use Rattle.std.specs.Map.{keys_of, lookup}
use Rattle.cell_core.specs.declared.cell.Cell.{Cell}
use Rattle.row_batch.specs.declared.change.RowChange.{RowChange}
use Rattle.place_order.specs.declared.rank.Rank.{Rank}
use Rattle.table_core.specs.Tables.{TableData}
use Rattle.view_types.specs.Keys.{key_order, same_key}
use Rattle.view_types.specs.declared.key.ViewKey.{ViewKey}
use Rattle.delta_core.specs.Rows.{at_key}
use Rattle.delta_core.specs.declared.touched.Touch.{Touch}
use Rattle.view_spec.specs.Columns.{is_flat}
use Rattle.view_spec.specs.Entries.{entry}
use Rattle.view_spec.specs.Kept.{kept}
use Rattle.view_spec.specs.Laws.{IsTyped}
use Rattle.view_spec.specs.Steps.{PassesGroup}
use Rattle.view_spec.specs.Touching.{key_of, touched}
use Rattle.view_spec.specs.Views.{Side, by_place, placed}
use Rattle.view_spec.specs.declared.placed.PlacedRow.{PlacedRow}
use Rattle.view_kept.specs.Steps.{IsStep, side_at, touched_between}
use Rattle.group_walk.specs.Walks.{AreVisits, is_told}
use Rattle.pivot_live.specs.Affected.{stands_after, told_of}
use Rattle.pivot_live.specs.Stepping.{IsWalkedStep, KnowsPlaces, ReachesAll}

-- rows in which under the affected keys stands what the walk met, and under the others what stood there before, are the
-- view's after the step
abbrev pub RowsAreTheViews : Type 0
RowsAreTheViews = (s : Side) (changes : List RowChange) (table : TableData) (told : List (List Cell)) (before : List Cell → Option (List Rank)) (shown : List PlacedRow) (keys : List ViewKey)
    → IsWalkedStep s changes table told before shown keys
    → (xs : List PlacedRow) → IsStrictlySortedBy by_place xs → IsDistinct (λ a b. same_key (key_of a) (key_of b)) xs → ((k : ViewKey) → at_key key_of k xs ≡ stands_after (entry s) keys shown k)
    → xs ≡ placed (side_at s table)

-- keys that were noted where something else stands then are the touched ones, each with whether it was shown
abbrev pub NotedKeysAreTouched : Type 0
NotedKeysAreTouched = (s : Side) (changes : List RowChange) (table : TableData) (told : List (List Cell)) (before : List Cell → Option (List Rank)) (shown : List PlacedRow) (keys : List ViewKey)
    → IsWalkedStep s changes table told before shown keys
    → (noted : List (ViewKey × Touch)) → IsStrictlySortedBy key_order (keys_of noted)
    → ((k : ViewKey) → lookup (same_key k) noted ≡ told_of (entry s k) (stands_after (entry s) keys shown k)) → noted ≡ touched_between s (side_at s table)

-- where a walk came after some told paths, the visits are bounded by the changes and the touched keys, those of the
-- changes themselves with them
abbrev pub VisitsAreBounded : Type 0
VisitsAreBounded = (s : Side) (changes : List RowChange) (table : TableData) → is_flat s.plan ≡ false → IsStep s changes table
    → (told : List (List Cell)) (before : List Cell → Option (List Rank)) → ((q : List Cell) → is_told told q ≡ false → PassesGroup s changes q)
    → KnowsPlaces s (kept s.plan table.store.pairs) before ⊎ ReachesAll s (kept s.plan table.store.pairs) → IsTyped s → IsTyped (side_at s table) → 0 < length told
    → (start end begin : ℕ) → AreVisits s.columns s.plan s.opening (kept s.plan table.store.pairs) told before start end
    → length told ≤ 2 * length changes → All (λ path. length path ≡ length s.plan.group_by) told → start ≤ begin + length changes * (2 * (length s.plan.group_by + 1))
    → end ≤ begin + 6 * length changes * (length s.plan.group_by + 1) + 2 * length (touched s (side_at s table))
