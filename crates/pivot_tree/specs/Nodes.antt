-- What a node has of the rows below its path.
use Rattle.std.specs.Prelude.{◌≡◌, List, [], ◌∷◌, ◌++◌, Bool, true, false, Option, Some, None}
use Rattle.cell_core.specs.Cells.{same_cell}
use Rattle.cell_core.specs.declared.cell.Cell.{Cell}
use Rattle.row_batch.specs.declared.batch.Pair.{Pair}
use Rattle.plan_types.specs.declared.plan.Named.{Named}
use Rattle.plan_types.specs.declared.plan.Plan.{Plan}
use Rattle.view_spec.specs.Members.{is_member, members, split_of, within}
use Rattle.pivot_tree.specs.Families.{At, IsCountOf, at_cell, at_path, rows_under}
use Rattle.pivot_tree.specs.Groups.{IsGroupOf}
use Rattle.pivot_tree.specs.declared.node.Node.{Node}

-- the members of a path, over all and per split, and the values with which paths go on
pub record IsNodeOf (plan : Plan) (used : List Named) (path : List Cell) (node : Node) (rows : List Pair) : Type 0 where
  pub all : IsGroupOf used node.all (members plan rows path)
  pub splits : (s : List Cell) → At (IsGroupOf used) (at_path node.splits.entries s) (rows_under s (within plan s (members plan rows path)))
  pub next : (c : Cell) → At IsCountOf (at_cell node.next.entries c) (members plan rows (path ++ c ∷ []))

abbrev pub is_next : Option Cell → Cell → Bool
is_next None c = false
is_next (Some k) c = same_cell k c

-- the row is a member of the path, with that split, and its path goes on with that value
pub record StandsAt (plan : Plan) (path split : List Cell) (next : Option Cell) (p : Pair) : Type 0 where
  pub member : is_member plan path p ≡ true
  pub split_is : split ≡ split_of plan p
  pub next_is : (c : Cell) → is_member plan (path ++ c ∷ []) p ≡ is_next next c
