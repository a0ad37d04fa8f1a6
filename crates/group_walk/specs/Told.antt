-- What is kept of told paths.
use Rattle.std.specs.Prelude.{◌≡◌, List, [], ◌∷◌, ◌++◌, Bool, false, Option, Some, None, is_some}
use Rattle.std.specs.BTreeSet.{BTreeSet}
use Rattle.std.specs.List.{list_any}
use Rattle.cell_core.specs.Cells.{same_cell}
use Rattle.cell_core.specs.declared.cell.Cell.{Cell}
use Rattle.pivot_tree.specs.Families.{at_path}
use Rattle.group_walk.specs.Walks.{is_told}

-- the values with which paths go on, where some path begins so
abbrev pub values_at : Option (BTreeSet Cell) → List Cell
values_at None = []
values_at (Some values) = values.keys

abbrev pub leads_to : Option Cell → Cell → Bool
leads_to None c = false
leads_to (Some d) c = same_cell c d

-- there is an entry for each beginning of a told path, and it has the values with which told paths go on there
pub record AreBeginnings (told : List (List Cell)) (entries : List (List Cell × BTreeSet Cell)) : Type 0 where
  pub each : (q : List Cell) → is_some (at_path entries q) ≡ is_told told q
  pub next : (q : List Cell) (c : Cell) → list_any (same_cell c) (values_at (at_path entries q)) ≡ is_told told (q ++ c ∷ [])
