use Rattle.std.proofs.Common.{◌≡◌, map, take}
use Rattle.view_spec.specs.Filters.{cell_in}
use Rattle.live_tree.proofs.paths.group_path.Given as goal

abbrev pub invariant-loop-column : goal.invariant-loop-column
invariant-loop-column l = l.path.items ≡ map (cell_in l.row) (take l.column-index l.columns)
