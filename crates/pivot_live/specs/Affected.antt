-- The keys that a step of a live view with groups sets right, and what stands under a key after it.
use Rattle.std.specs.Prelude.{List, Bool, false, ◌||◌, map, Option, Some, None, is_some, if◌then◌else◌}
use Rattle.cell_core.specs.declared.cell.Cell.{Cell}
use Rattle.view_types.specs.declared.key.ViewKey.{ViewKey}
use Rattle.view_types.specs.declared.key.ViewKey.TheVariants.{Row, Group}
use Rattle.delta_core.specs.KeySets.{is_among}
use Rattle.delta_core.specs.Rows.{at_key}
use Rattle.delta_core.specs.declared.touched.Touch.{Touch}
use Rattle.view_spec.specs.Touching.{key_of, same_found}
use Rattle.view_spec.specs.declared.placed.PlacedRow.{PlacedRow}
use Rattle.group_walk.specs.Walks.{is_told}

-- the groups with which a told path begins, and those that were met
abbrev pub affected : List (List Cell) → List PlacedRow → ViewKey → Bool
affected told shown (Row key) = false
affected told shown (Group path) = is_told told path || is_among (map key_of shown) (Group path)

-- under these keys stands what was met, and under the others what stood there before
abbrev pub stands_after : (ViewKey → Option PlacedRow) → List ViewKey → List PlacedRow → ViewKey → Option PlacedRow
stands_after was keys shown k = if is_among keys k then at_key key_of k shown else was k

-- what is told of a key: whether it was shown, where something else stands under it now
abbrev pub told_of : Option PlacedRow → Option PlacedRow → Option Touch
told_of was now = if same_found was now then None else Some (record { was_shown = is_some was })
