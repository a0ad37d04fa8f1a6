-- The data that a `Tree` stands for.
use Rattle.std.specs.Prelude.{ℕ, List, [], ◌∷◌}
use Rattle.plan_types.specs.declared.tree.Tree.{Tree}
use Rattle.plan_types.specs.declared.tree.TreeNode.TheFolds.{fold-Tree}
use Rattle.plan_types.specs.declared.tree.TreeNode.TheOpen.{Tree-F, TreeNode-F}
use Rattle.expr_spec.specs.TreeData.{TreeData, column, number, truth, words, unary, binary, call, Arguments, no_arguments, argument}

abbrev pub arguments_of : List TreeData → Arguments
arguments_of [] = no_arguments
arguments_of (t ∷ ts) = argument t (arguments_of ts)

-- one node at its place, with each tree inside already seen as its data
abbrev pub node_step : TreeNode-F (ℕ → TreeData) TreeData → ℕ → TreeData
node_step (TreeNode-F.Column name i) at = column at name i
node_step (TreeNode-F.Number n) at = number at n
node_step (TreeNode-F.Truth b) at = truth at b
node_step (TreeNode-F.Words s) at = words at s
node_step (TreeNode-F.Unary op a) at = unary at op a
node_step (TreeNode-F.Binary op a b) at = binary at op a b
node_step (TreeNode-F.Call name args) at = call at name (arguments_of args)

abbrev pub tree_step : Tree-F (ℕ → TreeData) TreeData → TreeData
tree_step t = t.node t.at

abbrev pub tree_view : Tree → TreeData
tree_view = fold-Tree (ℕ → TreeData) TreeData node_step tree_step
