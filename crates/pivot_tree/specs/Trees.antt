-- What a tree has of a view's kept rows.
use Rattle.std.specs.Prelude.{◌≡◌, ◌<◌, ◌≤◌, true, false, List, [], ◌∷◌, length, All, Option, Some, None}
use Rattle.std.specs.List.Sorted.{IsStrictlySortedBy}
use Rattle.cell_core.specs.Limits.{max_rows}
use Rattle.cell_core.specs.declared.cell.Cell.{Cell}
use Rattle.plain_data.specs.Distinct.{AreDistinct}
use Rattle.row_batch.specs.Tables.{keys_of_rows}
use Rattle.row_batch.specs.declared.batch.Pair.{Pair}
use Rattle.plan_types.specs.declared.plan.Named.{Named}
use Rattle.plan_types.specs.declared.plan.Plan.{Plan}
use Rattle.cell_core.specs.declared.schema.Column.{Column}
use Rattle.agg_core.specs.Types.{IsTaken}
use Rattle.view_spec.specs.Columns.{aggregate_at}
use Rattle.view_spec.specs.Entries.{is_there}
use Rattle.view_spec.specs.Filters.{cell_in}
use Rattle.view_spec.specs.Kept.{by_key}
use Rattle.view_spec.specs.Members.{members, within}
use Rattle.pivot_tree.specs.Families.{At, at_path}
use Rattle.pivot_tree.specs.Columns.{Uses, used_columns}
use Rattle.pivot_tree.specs.Groups.{IsApart}
use Rattle.pivot_tree.specs.Nodes.{IsNodeOf}
use Rattle.pivot_tree.specs.declared.node.Node.{Node}
use Rattle.pivot_tree.specs.declared.tree.PivotTree.{PivotTree}

-- no node where the path has no members, and else one that has the aggregates of the members there
abbrev pub NodeAt : Plan → List Named → List Pair → Option Node → List Cell → Type 0
NodeAt plan used rows o path = At (λ node ms. IsNodeOf plan used path node rows) o (members plan rows path)

-- the same below the total
abbrev pub NodesOf : Plan → List Named → List Pair → List (List Cell × Node) → Type 0
NodesOf plan used rows entries = (c : Cell) (cs : List Cell) → NodeAt plan used rows (at_path entries (c ∷ cs)) (c ∷ cs)

-- ---- the tree

-- the tree has the nodes of these kept rows
pub record IsTreeOf (columns : List Column) (plan : Plan) (tree : PivotTree) (rows : List Pair) : Type 0 where
  pub group_by : tree.group_by.items ≡ plan.group_by
  pub split_by : tree.split_by.items ≡ plan.split_by
  pub uses : Uses columns plan tree.used.items
  pub ascending : IsStrictlySortedBy by_key rows
  pub total : IsNodeOf plan tree.used.items [] tree.total rows
  pub nodes : NodesOf plan tree.used.items rows tree.nodes.entries

-- the row's key isn't there, there is room, and its cells in used columns are ones that their aggregates take
pub record CanAddRow (columns : List Column) (plan : Plan) (rows : List Pair) (p : Pair) : Type 0 where
  pub absent : IsApart p.key rows
  pub room : length rows < max_rows
  pub taken : All (λ i. IsTaken (aggregate_at columns plan i) (cell_in p.row i)) (used_columns plan)

-- ---- what callers see of a node

-- the node has the aggregates of the path's members, over all and per split
pub record IsNode (columns : List Column) (plan : Plan) (path : List Cell) (node : Node) (rows : List Pair) : Type 0 where
  pub used : List Named
  pub uses : Uses columns plan used
  pub node_of : IsNodeOf plan used path node rows

-- a node is there exactly at the paths that the view has
abbrev pub FoundAt : List Column → Plan → List Pair → Option Node → List Cell → Type 0
FoundAt columns plan rows None path = is_there plan rows path ≡ false
FoundAt columns plan rows (Some node) path = (is_there plan rows path ≡ true) × IsNode columns plan path node rows

-- all of some rows, or those of one split
abbrev pub rows_of : Plan → Option (List Cell) → List Pair → List Pair
rows_of plan None rows = rows
rows_of plan (Some split) rows = within plan split rows

-- ---- rows that a tree may be made of

-- no key stands twice, there is room, and the cells in used columns are ones that their aggregates take
pub record AreRows (columns : List Column) (plan : Plan) (pairs : List Pair) : Type 0 where
  pub apart : AreDistinct (keys_of_rows pairs)
  pub few : length pairs ≤ max_rows
  pub taken : All (λ (p : Pair). All (λ i. IsTaken (aggregate_at columns plan i) (cell_in p.row i)) (used_columns plan)) pairs
