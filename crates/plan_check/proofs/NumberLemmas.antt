-- Numbered trees.
use Rattle.std.proofs.Common.{◌≡◌, ℕ, suc, ◌<◌, List, [], ◌∷◌, map, length, get_or, Option, refl, arith, rules}
use Rattle.cell_core.specs.declared.schema.Column.{Column}
use Rattle.plan_types.specs.declared.tree.Tree.{Tree}
use Rattle.plan_types.specs.declared.tree.TreeNode.{the_lemmas}
use Rattle.plan_types.specs.declared.tree.TreeNode.TheVariants as node
use Rattle.expr_spec.specs.TreeData.{TreeData, column, Arguments, argument}
use Rattle.expr_spec.specs.TreeViews.{tree_view, arguments_of}
use Rattle.expr_spec.specs.Typing.{numbered, numbered_all}
use Rattle.plan_check.specs.Trees.{tree_of, trees_of}

pub view_column : (t : Tree) (name : List ℕ) (place : Option ℕ) → t.node ≡ node.Column name place → tree_view t ≡ column t.at name place
view_column t name place e = search (rules, the_lemmas, e)

both : (a b : TreeData) (more rest : Arguments) → a ≡ b → more ≡ rest → argument a more ≡ argument b rest
both a b more rest e f = cc

pub numbered_each : (columns : List Column) (new old : List Tree) → length new ≡ length old
    → ((k : ℕ) (d : Tree) → k < length old → tree_view (get_or new k d) ≡ numbered columns (tree_view (get_or old k d)))
    → arguments_of (map tree_view new) ≡ numbered_all columns (arguments_of (map tree_view old))
numbered_each columns [] [] e h = refl
numbered_each columns [] (o ∷ old) e h = absurd (omega arith)
numbered_each columns (n ∷ new) [] e h = absurd (omega arith)
numbered_each columns (n ∷ new) (o ∷ old) e h =
    both (tree_view n) (numbered columns (tree_view o)) _ _ (h 0 n (omega arith))
    (numbered_each columns new old (omega arith) (λ k d lt. h (suc k) d (omega arith)))

cons : (a b : Tree) (more rest : List Tree) → a ≡ b → more ≡ rest → a ∷ more ≡ b ∷ rest
cons a b more rest e f = cc

pub trees_each : (columns : List Column) (new old : List Tree) → length new ≡ length old
    → ((k : ℕ) (d : Tree) → k < length old → get_or new k d ≡ tree_of (numbered columns (tree_view (get_or old k d))))
    → new ≡ trees_of (numbered_all columns (arguments_of (map tree_view old)))
trees_each columns [] [] e h = refl
trees_each columns [] (o ∷ old) e h = absurd (omega arith)
trees_each columns (n ∷ new) [] e h = absurd (omega arith)
trees_each columns (n ∷ new) (o ∷ old) e h =
    cons n (tree_of (numbered columns (tree_view o))) _ _ (h 0 n (omega arith))
    (trees_each columns new old (omega arith) (λ k d lt. h (suc k) d (omega arith)))
