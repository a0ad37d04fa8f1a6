-- What stands under one key of a view, told from the key.
use Rattle.std.specs.Prelude.{List, Bool, ◌&&◌, ◌||◌, Option, Some, None, option_map, if◌then◌else◌}
use Rattle.std.specs.List.{list_any}
use Rattle.plain_data.specs.Lists.{is_empty}
use Rattle.cell_core.specs.declared.cell.Cell.{Cell}
use Rattle.row_batch.specs.Batches.{pair_of}
use Rattle.row_batch.specs.Changes.{row_at}
use Rattle.row_batch.specs.declared.batch.Pair.{Pair}
use Rattle.plan_types.specs.declared.plan.Plan.{Plan}
use Rattle.view_types.specs.declared.key.ViewKey.{ViewKey}
use Rattle.view_types.specs.declared.key.ViewKey.TheVariants.{Row, Group}
use Rattle.view_spec.specs.Columns.{is_flat}
use Rattle.view_spec.specs.Kept.{full_pair, is_kept, kept}
use Rattle.view_spec.specs.Members.{is_member}
use Rattle.view_spec.specs.Openings.{is_visible}
use Rattle.view_spec.specs.declared.placed.PlacedRow.{PlacedRow}
use Rattle.view_spec.specs.Views.{Side, placed_group, placed_row}

-- whether a view has a path: the total's always, and another where some kept row's group cells begin with it
abbrev pub is_there : Plan → List Pair → List Cell → Bool
is_there plan rows path = is_empty path || list_any (is_member plan path) rows

abbrev pub where_it : {X : Type 0} → Bool → X → Option X
where_it b x = if b then Some x else None

-- the row of a key with its expressions, where the table has it and the plan keeps it
abbrev pub kept_at : Plan → Option Pair → Option Pair
kept_at plan None = None
kept_at plan (Some p) = where_it (is_kept plan (full_pair plan p)) (full_pair plan p)

abbrev pub group_entry : Side → List Cell → Option PlacedRow
group_entry s path =
    let rows = kept s.plan s.pairs in
    where_it (is_visible s.opening path && is_there s.plan rows path) (placed_group s.columns s.plan s.opening rows path)

abbrev pub row_entry : Side → Cell → Option PlacedRow
row_entry s key = option_map (placed_row s.columns s.plan) (kept_at s.plan (option_map (pair_of key) (row_at s.pairs key)))

-- the shown row of a key with its place, where the key is shown
abbrev pub entry : Side → ViewKey → Option PlacedRow
entry s (Row key) = if is_flat s.plan then row_entry s key else None
entry s (Group path) = if is_flat s.plan then None else group_entry s path
