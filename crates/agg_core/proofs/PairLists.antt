-- Pairs that are put in and taken out: what does not depend on the order of the cells, and what every list of pairs keeps.
use Rattle.std.proofs.Common.{◌≡◌, suc, ◌+◌, Bool, true, false, Less, Equal, Greater, List, [], ◌∷◌, length, Some, None, refl, ap, ◌∙◌, arith}
use Rattle.std.specs.declared.cmp.Ordering.{Ordering}
use Rattle.std.specs.List.{AllByRecursion}
use Rattle.std.specs.List.Sorted.{IsStrictlySortedBy}
use Rattle.std.specs.Map.{keys_of}
use Rattle.std.proofs.lemmas.List.Elements.{All-nil, All-from_recursion, recursion_from_All}
use Rattle.std.proofs.lemmas.Map.Views.{All-keys-insert_entry, All-values-insert_entry, All-map-remove_entry}
use Rattle.cell_core.proofs.CellOrder as order
use Rattle.cell_core.specs.Cells.{cell_order, same_cell}
use Rattle.cell_core.specs.declared.cell.Cell.{Cell}
use Rattle.plan_types.specs.declared.aggregate.AggName.{AggName}
use Rattle.agg_core.specs.Pairs.{cells_of, cell_at, with_pair, without_key}
use Rattle.agg_core.specs.Standing.{ArePairs, CanAdd}
use Rattle.agg_core.specs.Types.{IsTaken}
use Rattle.agg_core.proofs.Cells.{after}

abbrev Pairs : Type 0
Pairs = List (Cell × Cell)

-- ---- measures

-- a measure of cells that does not depend on their order
pub record IsOrderless {X : Type 0} (measure : List Cell → X) : Type 0 where
  pub swap : (a b : Cell) (cells : List Cell) → measure (a ∷ b ∷ cells) ≡ measure (b ∷ a ∷ cells)
  pub more : (a : Cell) (xs ys : List Cell) → measure xs ≡ measure ys → measure (a ∷ xs) ≡ measure (a ∷ ys)

with_step : {X : Type 0} (measure : List Cell → X) (is : IsOrderless measure) (e : Cell × Cell) (es : Pairs) (key cell : Cell) (o : Ordering) → cell_order key e.0 ≡ o
    → cell_at (e ∷ es) key ≡ None → (cell_at es key ≡ None → measure (cells_of (with_pair es key cell)) ≡ measure (cell ∷ cells_of es))
    → measure (cells_of (with_pair (e ∷ es) key cell)) ≡ measure (cell ∷ cells_of (e ∷ es))
with_step measure is e es key cell Less at none later = rw at refl
with_step measure is e es key cell Equal at none later = let wrong : Some e.1 ≡ None = rw at at none in absurd (cc)
with_step measure is e es key cell Greater at none later =
    let none_after : cell_at es key ≡ None = rw at at none in
    rw at (is.more e.1 _ _ (later none_after) ∙ is.swap e.1 cell (cells_of es))

-- a new pair counts as its cell before all others
pub measure-with_pair : {X : Type 0} (measure : List Cell → X) (is : IsOrderless measure) (pairs : Pairs) (key cell : Cell) → cell_at pairs key ≡ None
    → measure (cells_of (with_pair pairs key cell)) ≡ measure (cell ∷ cells_of pairs)
measure-with_pair measure is [] key cell none = refl
measure-with_pair measure is (e ∷ es) key cell none =
    with_step measure is e es key cell (cell_order key e.0) refl none (measure-with_pair measure is es key cell)

without_step : {X : Type 0} (measure : List Cell → X) (is : IsOrderless measure) (e : Cell × Cell) (es : Pairs) (key cell : Cell) (b : Bool) → same_cell key e.0 ≡ b
    → cell_at (e ∷ es) key ≡ Some cell → (cell_at es key ≡ Some cell → measure (cells_of es) ≡ measure (cell ∷ cells_of (without_key es key)))
    → measure (cells_of (e ∷ es)) ≡ measure (cell ∷ cells_of (without_key (e ∷ es) key))
without_step measure is e es key cell true at there later =
    let found : Some e.1 ≡ Some cell = rw at at there in
    let same : e.1 ≡ cell = cc in
    rw at (ap (λ z. measure (z ∷ cells_of es)) same)
without_step measure is e es key cell false at there later =
    let there_after : cell_at es key ≡ Some cell = rw at at there in
    rw at (is.more e.1 _ _ (later there_after) ∙ is.swap e.1 cell (cells_of (without_key es key)))

-- a pair that is there counts as its cell before all others
pub measure-without_key : {X : Type 0} (measure : List Cell → X) (is : IsOrderless measure) (pairs : Pairs) (key cell : Cell) → cell_at pairs key ≡ Some cell
    → measure (cells_of pairs) ≡ measure (cell ∷ cells_of (without_key pairs key))
measure-without_key measure is [] key cell there = absurd (cc)
measure-without_key measure is (e ∷ es) key cell there =
    without_step measure is e es key cell (same_cell key e.0) refl there (measure-without_key measure is es key cell)

pub length-orderless : IsOrderless length
length-orderless = record { swap = λ a b cells. refl; more = λ a xs ys h. ap suc h }

pub length-cells_of : (pairs : Pairs) → length (cells_of pairs) ≡ length pairs
length-cells_of [] = refl
length-cells_of (e ∷ es) = ap suc (length-cells_of es)

pub length-with_pair : (pairs : Pairs) (key cell : Cell) → cell_at pairs key ≡ None → length (with_pair pairs key cell) ≡ length pairs + 1
length-with_pair pairs key cell none =
    let cells = measure-with_pair length length-orderless pairs key cell none in
    let old = length-cells_of pairs in
    let new = length-cells_of (with_pair pairs key cell) in
    omega arith

pub length-without_key : (pairs : Pairs) (key cell : Cell) → cell_at pairs key ≡ Some cell → length pairs ≡ length (without_key pairs key) + 1
length-without_key pairs key cell there =
    let cells = measure-without_key length length-orderless pairs key cell there in
    let old = length-cells_of pairs in
    let new = length-cells_of (without_key pairs key) in
    omega arith

-- ---- what every list of pairs keeps

pub less_than_all : (a b : Cell) → cell_order a b ≡ Less → (keys : List Cell) → AllByRecursion (λ y. cell_order b y ≡ Less) keys → AllByRecursion (λ y. cell_order a y ≡ Less) keys
less_than_all a b less [] all = all
less_than_all a b less (k ∷ ks) all = (order.total.trans a b k less all.0, less_than_all a b less ks all.1)

sorted_with_step : (e : Cell × Cell) (es : Pairs) (key cell : Cell) (o : Ordering) → cell_order key e.0 ≡ o → IsStrictlySortedBy cell_order (keys_of (e ∷ es))
    → IsStrictlySortedBy cell_order (keys_of (with_pair es key cell)) → IsStrictlySortedBy cell_order (keys_of (with_pair (e ∷ es) key cell))
unfolding IsStrictlySortedBy
sorted_with_step e es key cell Less at sorted more = rw at ((at, less_than_all key e.0 at (keys_of es) sorted.0), sorted)
sorted_with_step e es key cell Equal at sorted more = rw at sorted
sorted_with_step e es key cell Greater at sorted more =
    let P : Cell → Type 0 = λ y. cell_order e.0 y ≡ Less in
    let above : AllByRecursion P (keys_of (with_pair es key cell)) =
    recursion_from_All P _ (All-keys-insert_entry cell_order key cell P es (All-from_recursion P _ sorted.0) (after key e.0 at)) in
    rw at (above, more)

sorted_with : (pairs : Pairs) (key cell : Cell) → IsStrictlySortedBy cell_order (keys_of pairs) → IsStrictlySortedBy cell_order (keys_of (with_pair pairs key cell))
unfolding IsStrictlySortedBy
sorted_with [] key cell sorted = (tt, tt)
sorted_with (e ∷ es) key cell sorted =
    sorted_with_step e es key cell (cell_order key e.0) refl sorted (sorted_with es key cell sorted.1)

sorted_without_step : (e : Cell × Cell) (es : Pairs) (key : Cell) (b : Bool) → same_cell key e.0 ≡ b → IsStrictlySortedBy cell_order (keys_of (e ∷ es))
    → IsStrictlySortedBy cell_order (keys_of (without_key es key)) → IsStrictlySortedBy cell_order (keys_of (without_key (e ∷ es) key))
unfolding IsStrictlySortedBy
sorted_without_step e es key true at sorted more = rw at sorted.1
sorted_without_step e es key false at sorted more =
    let P : Cell → Type 0 = λ y. cell_order e.0 y ≡ Less in
    let above : AllByRecursion P (keys_of (without_key es key)) =
    recursion_from_All P _ (All-map-remove_entry (same_cell key) (λ p. p.0) P es (All-from_recursion P _ sorted.0)) in
    rw at (above, more)

sorted_without : (pairs : Pairs) (key : Cell) → IsStrictlySortedBy cell_order (keys_of pairs) → IsStrictlySortedBy cell_order (keys_of (without_key pairs key))
unfolding IsStrictlySortedBy
sorted_without [] key sorted = sorted
sorted_without (e ∷ es) key sorted =
    sorted_without_step e es key (same_cell key e.0) refl sorted (sorted_without es key sorted.1)

pub ArePairs-nil : (name : AggName) → ArePairs name []
unfolding IsStrictlySortedBy
ArePairs-nil name = record { by_key = tt; few = omega arith; taken = All-nil (IsTaken name) }

pub ArePairs-with_pair : (name : AggName) (pairs : Pairs) (key cell : Cell) → ArePairs name pairs → CanAdd name pairs key cell → ArePairs name (with_pair pairs key cell)
ArePairs-with_pair name pairs key cell are can = record {
  by_key = sorted_with pairs key cell are.by_key;
  few = let longer = length-with_pair pairs key cell can.absent in let room = can.room in omega arith;
  taken = All-values-insert_entry cell_order key cell (IsTaken name) pairs are.taken can.taken;
}

pub ArePairs-without_key : (name : AggName) (pairs : Pairs) (key cell : Cell) → ArePairs name pairs → cell_at pairs key ≡ Some cell → ArePairs name (without_key pairs key)
ArePairs-without_key name pairs key cell are there = record {
  by_key = sorted_without pairs key are.by_key;
  few = let shorter = length-without_key pairs key cell there in let few = are.few in omega arith;
  taken = All-map-remove_entry (same_cell key) (λ p. p.1) (IsTaken name) pairs are.taken;
}
