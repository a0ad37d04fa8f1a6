-- How high a balanced tree is.
use Rattle.std.specs.Prelude.{◌≡◌, ℕ, ◌+◌, ◌^◌, ◌≤◌, ◌/◌, max, List, length}

-- neither height is more than this above the other
abbrev pub DifferByAtMost : ℕ → ℕ → ℕ → Type 0
DifferByAtMost by left right = (left ≤ right + by) × (right ≤ left + by)

-- a tree of this height has room for the items, and is at most about twice as high as it must be
pub record IsHeightFor {T : Type 0} (items : List T) (height : ℕ) : Type 0 where
  pub not_too_high : 2 ^ (height / 2) ≤ length items + 1
  pub high_enough : length items + 1 ≤ 2 ^ height

-- the height of what two sides of these heights make, after a rotation where they need one
pub record IsHeightAfterRotation (left right height : ℕ) : Type 0 where
  pub not_lower : max left right ≤ height
  pub at_most_one_higher : height ≤ max left right + 1
  pub where_level : DifferByAtMost 1 left right → height ≡ max left right + 1
