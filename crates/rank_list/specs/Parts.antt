-- What a tree taken apart at its root leaves.
use Rattle.std.specs.Prelude.{◌≡◌, ℕ, ◌+◌, ◌^◌, ◌<◌, max, List, ◌∷◌, ◌++◌, length}
use Rattle.rank_list.specs.declared.tree.Parts.{Parts}
use Rattle.rank_list.specs.Shape.{DifferByAtMost}

-- the sides and the item between them make up these items, and the sides are level
pub record ArePartsOf {T : Type 0} (parts : Parts T) (items : List T) (height : ℕ) : Type 0 where
  pub whole : items ≡ parts.left.0 ++ parts.middle.value.item ∷ parts.right.0
  pub height_is : height ≡ max parts.left.1 parts.right.1 + 1
  pub level : DifferByAtMost 1 parts.left.1 parts.right.1
  pub fits : length parts.left.0 + 1 + length parts.right.0 < 2 ^ 64
