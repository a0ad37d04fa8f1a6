-- The tree that data stands for.
use Rattle.std.specs.Prelude.{List, [], ◌∷◌}
use Rattle.plan_types.specs.declared.tree.Tree.{Tree}
use Rattle.plan_types.specs.declared.tree.TreeNode as node
use Rattle.expr_parse.specs.Grammar.{tree}
use Rattle.expr_spec.specs.TreeData.{TreeData, column, number, truth, words, unary, binary, call, Arguments, no_arguments, argument}

abbrev mutual
  pub tree_of : TreeData → Tree
  tree_of (column at name i) = tree at (node.Column name i)
  tree_of (number at n) = tree at (node.Number n)
  tree_of (truth at b) = tree at (node.Truth b)
  tree_of (words at s) = tree at (node.Words s)
  tree_of (unary at op a) = tree at (node.Unary op (tree_of a))
  tree_of (binary at op a b) = tree at (node.Binary op (tree_of a) (tree_of b))
  tree_of (call at name args) = tree at (node.Call name (trees_of args))

  pub trees_of : Arguments → List Tree
  trees_of no_arguments = []
  trees_of (argument a more) = tree_of a ∷ trees_of more
