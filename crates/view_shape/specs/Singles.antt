-- Groups that are opened or closed one by one.
use Rattle.std.specs.Prelude.{ℕ, List, map, count_by, Bool, not, Vec}
use Rattle.std.specs.BTreeMap.{insert_entry}
use Rattle.cell_core.specs.declared.cell.Cell.{Cell}
use Rattle.view_spec.specs.Openings.{Opening}
use Rattle.view_spec.specs.Paths.{path_order, same_path}

-- the path is open or closed by itself from now on
abbrev pub with_single : Opening → List Cell → Bool → Opening
with_single opening path opened = record { depth = opening.depth; singles = insert_entry path_order opening.singles path opened }

-- how many other paths have single openings
abbrev pub other_singles : Opening → List Cell → ℕ
other_singles opening path = count_by (λ s. not (same_path path s.0)) opening.singles

-- a map's entries, with the cells of each path
abbrev pub by_path : {Z : Type 0} → List (Vec Cell Z × Bool) → List (List Cell × Bool)
by_path entries = map (λ e. (e.0.items, e.1)) entries
