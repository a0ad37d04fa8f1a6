-- What a tree is seen as, and what holds of it.
use Rattle.std.specs.Prelude.{◌≡◌, ℕ, ◌+◌, ◌^◌, ◌<◌, max, List, [], ◌∷◌, ◌++◌, length, Option, Some, None}
use Rattle.std.specs.declared.boxed.Box.{Box}
use Rattle.std.specs.declared.alloc.Global.{Global}
use Rattle.rank_list.specs.declared.tree.Fork.{Fork}
use Rattle.rank_list.specs.Shape.{DifferByAtMost, IsHeightFor}

abbrev pub fork_items : {T : Type 0} → Fork T → List T
fork_items fork = fork.left.0 ++ fork.item ∷ fork.right.0

-- the items in order, and the height that the root stores
abbrev pub items_and_height : {T : Type 0} → Option (Box (Fork T) Global) → List T × ℕ
items_and_height None = ([], 0)
items_and_height (Some fork) = (fork_items fork.value, fork.value.height)

-- the count and the height are right, the sides are level, and the height suits the items
pub record IsBalancedFork {T : Type 0} (fork : Fork T) : Type 0 where
  pub count : fork.count ≡ length (fork_items fork)
  pub fits : fork.count < 2 ^ 64
  pub height : fork.height ≡ max fork.left.1 fork.right.1 + 1
  pub level : DifferByAtMost 1 fork.left.1 fork.right.1
  pub suits : IsHeightFor (fork_items fork) fork.height

abbrev pub IsBalanced : {T : Type 0} → Option (Box (Fork T) Global) → Type 0
IsBalanced None = Unit {0}
IsBalanced (Some fork) = IsBalancedFork fork.value
