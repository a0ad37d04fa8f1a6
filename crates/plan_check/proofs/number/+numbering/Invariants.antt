use Rattle.std.proofs.Common.{◌≡◌, ℕ, ◌<◌, length, get_or}
use Rattle.plan_types.specs.declared.tree.Tree.{Tree}
use Rattle.expr_spec.specs.TreeViews.{tree_view}
use Rattle.expr_spec.specs.Typing.{numbered}
use Rattle.plan_check.specs.Trees.{tree_of}
use Rattle.plan_check.proofs.number.+numbering.Given as goal

-- those before i are numbered, and the others are as they were
abbrev pub invariant-number_each-loop-i : goal.invariant-number_each-loop-i
invariant-number_each-loop-i l =
    goal.unvisited-number_each-loop-i l
    × ((k : ℕ) (d : Tree) → k < l.i → k < length l.initial.trees → tree_view (get_or l.trees k d) ≡ numbered l.schema.columns (tree_view (get_or l.initial.trees k d)))
    × ((k : ℕ) (d : Tree) → k < l.i → k < length l.initial.trees → get_or l.trees k d ≡ tree_of (numbered l.schema.columns (tree_view (get_or l.initial.trees k d))))
