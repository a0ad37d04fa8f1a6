-- What a live tree has, and what it stands for.
use Rattle.std.specs.Prelude.{◌≡◌, List}
use Rattle.cell_core.specs.declared.schema.Column.{Column}
use Rattle.row_batch.specs.declared.batch.Pair.{Pair}
use Rattle.plan_types.specs.declared.plan.Plan.{Plan}
use Rattle.view_spec.specs.Kept.{kept}
use Rattle.view_spec.specs.Views.{Side}
use Rattle.pivot_tree.specs.Trees.{IsTreeOf}
use Rattle.pivot_tree.specs.declared.tree.PivotTree.{PivotTree}
use Rattle.group_show.specs.Plans.{IsGroupedPlan}

-- the table's columns, the plan of the view, and the kept rows, ascending by key
pub record LiveTreeData : Type 0 where
  pub columns : List Column
  pub plan : Plan
  pub rows : List Pair

-- the plan has groups and fits the columns, and the tree has the groups of the rows
pub record IsLiveTree (columns : List Column) (plan : Plan) (groups : PivotTree) (rows : List Pair) : Type 0 where
  pub fits : IsGroupedPlan columns plan
  pub tree : IsTreeOf columns plan groups rows

-- the columns and the plan are the side's, and the rows are those that its view keeps
pub record StandsTree (t : LiveTreeData) (s : Side) : Type 0 where
  pub columns : t.columns ≡ s.columns
  pub plan : t.plan ≡ s.plan
  pub rows : t.rows ≡ kept s.plan s.pairs
