-- How the height that suits the items of two sides suits what is joined of them.
use Rattle.std.proofs.Common.{◌≡◌, ℕ, ◌+◌, ◌/◌, ◌^◌, ◌<◌, ◌≤◌, max, List, ◌∷◌, ◌++◌, length, inl, inr, arith, length-append}
use Rattle.std.proofs.Math.Pow.{pow_mono}
use Rattle.std.proofs.lemmas.Grind.{pow_more}
use Rattle.std.proofs.lemmas.Bool.{cases_lt}
use Rattle.rank_list.specs.Shape.{DifferByAtMost, IsHeightFor}
use Rattle.rank_list.specs.Tree.{IsBalancedFork}
use Rattle.rank_list.specs.declared.tree.Fork.{Fork}

-- half the height is at most one more than half of either side's
halves : (h k : ℕ) → DifferByAtMost 1 h k → ((max h k + 1) / 2 ≤ h / 2 + 1) × ((max h k + 1) / 2 ≤ k / 2 + 1)
halves h k level = (omega arith, omega arith)

pub power_joined : (h k m n : ℕ) → DifferByAtMost 1 h k → 2 ^ (h / 2) ≤ m + 1 → 2 ^ (k / 2) ≤ n + 1 → 2 ^ ((max h k + 1) / 2) ≤ m + n + 2
power_joined h k m n level left right =
    let below = halves h k level in
    let a : 2 ^ ((max h k + 1) / 2) ≤ 2 ^ (h / 2 + 1) = pow_mono below.0 in
    let b : 2 ^ ((max h k + 1) / 2) ≤ 2 ^ (k / 2 + 1) = pow_mono below.1 in
    omega (arith, pow_more 2 (h / 2), pow_more 2 (k / 2))

pub room_joined : (h k m n : ℕ) → m + 1 ≤ 2 ^ h → n + 1 ≤ 2 ^ k → m + n + 2 ≤ 2 ^ (max h k + 1)
room_joined h k m n left right =
    let a : 2 ^ h ≤ 2 ^ max h k = pow_mono (omega arith) in
    let b : 2 ^ k ≤ 2 ^ max h k = pow_mono (omega arith) in
    omega (arith, pow_more 2 (max h k))

pub suits_joined : {T : Type 0} (left right : List T) (h k : ℕ) (item : T) → IsHeightFor left h → IsHeightFor right k → DifferByAtMost 1 h k → IsHeightFor (left ++ item ∷ right) (max h k + 1)
suits_joined left right h k item a b level = record {
  not_too_high = omega (arith, length-append left (item ∷ right), power_joined h k (length left) (length right) level a.not_too_high b.not_too_high);
  high_enough = omega (arith, length-append left (item ∷ right), room_joined h k (length left) (length right) a.high_enough b.high_enough);
}

-- a tree of a count that fits 64 bits is at most this high
pub height_below : {T : Type 0} (items : List T) (h : ℕ) → IsHeightFor items h → length items < 2 ^ 64 → h < 130
height_below items h suits fits =
    elim (cases_lt 64 (h / 2)) [
      | inl high ↦ let far : 2 ^ 65 ≤ 2 ^ (h / 2) = pow_mono {i = 65} {j = h / 2} (omega arith) in absurd (omega (arith, suits.not_too_high))
      | inr low ↦ omega arith
    ]

-- two level sides that are right make a fork that is right
pub balanced_joined : {T : Type 0} (fork : Fork T) → IsHeightFor fork.left.0 fork.left.1 → IsHeightFor fork.right.0 fork.right.1 → DifferByAtMost 1 fork.left.1 fork.right.1 → fork.count ≡ length fork.left.0 + 1 + length fork.right.0 → fork.count < 2 ^ 64 → fork.height ≡ max fork.left.1 fork.right.1 + 1 → IsBalancedFork fork
balanced_joined fork left right level count fits height = record {
  count = omega (arith, length-append fork.left.0 (fork.item ∷ fork.right.0));
  fits = fits;
  height = height;
  level = level;
  suits = rw height (suits_joined fork.left.0 fork.right.0 fork.left.1 fork.right.1 fork.item left right level);
}

pub ruleset lengths = (length-append)
