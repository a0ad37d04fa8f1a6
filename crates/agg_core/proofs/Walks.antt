-- Walks over counted cells: the cell at a place, and the most frequent.
use Rattle.std.proofs.Common.{◌≡◌, ℕ, zero, suc, ◌+◌, ◌-◌, ◌<◌, ◌≤◌, Bool, true, false, cond, nat_lt, List, [], ◌∷◌, ◌++◌, replicate, slice_get, Option, Some, None, fold, refl, ap, ◌∙◌, arith}
use Rattle.std.specs.List.{AllByRecursion, list_any, reduce}
use Rattle.std.specs.List.Sorted.{IsStrictlySortedBy}
use Rattle.std.specs.Map.{keys_of}
use Rattle.std.specs.Ordering.{is_eq}
use Rattle.std.proofs.lemmas.Bool.{lt-ltb, le-ltb}
use Rattle.std.proofs.lemmas.List.Sums.{sum_by-cons}
use Rattle.cell_core.specs.Cells.{same_cell}
use Rattle.cell_core.specs.declared.cell.Cell.{Cell}
use Rattle.agg_core.specs.Aggregates.{times_in, more_frequent}
use Rattle.agg_core.specs.Bags.{repeated}
use Rattle.agg_core.proofs.Cells.{itself, before}
use Rattle.agg_core.proofs.Ends.{AreSome, some_head, some_tail, none_above}
use Rattle.agg_core.proofs.Repeats.{Counts, IsSorted, AllAbove, above_repeated}

-- ---- a place

pub place_within : (k : Cell) (n i : ℕ) (xs : List Cell) → i < n → slice_get (replicate n k ++ xs) i ≡ Some k
place_within k zero i xs less = absurd (omega arith)
place_within k (suc n) zero xs less = refl
place_within k (suc n) (suc i) xs less = place_within k n i xs (omega arith)

pub place_beyond : (k : Cell) (n i : ℕ) (xs : List Cell) → n ≤ i → slice_get (replicate n k ++ xs) i ≡ slice_get xs (i - n)
place_beyond k zero i xs le = let same : i ≡ i - 0 = omega arith in ap (slice_get xs) same
place_beyond k (suc n) zero xs le = absurd (omega arith)
place_beyond k (suc n) (suc i) xs le =
    let same : i - n ≡ suc i - suc n = omega arith in
    place_beyond k n i xs (omega arith) ∙ ap (slice_get xs) same

-- ---- how often

times_cons : (c x : Cell) (xs : List Cell) (b : Bool) → same_cell c x ≡ b → times_in (x ∷ xs) c ≡ cond b 1 0 + times_in xs c
times_cons c x xs b is = sum_by-cons (λ y. cond (same_cell c y) 1 0) x xs ∙ ap (λ t. cond t 1 0 + times_in xs c) is

times_copies : (c k : Cell) (n : ℕ) (xs : List Cell) → same_cell c k ≡ true → times_in (replicate n k ++ xs) c ≡ n + times_in xs c
times_copies c k zero xs same = omega arith
times_copies c k (suc n) xs same =
    let one = times_cons c k (replicate n k ++ xs) true same in
    let more = times_copies c k n xs same in
    omega arith

times_others : (c k : Cell) (n : ℕ) (xs : List Cell) → same_cell c k ≡ false → times_in (replicate n k ++ xs) c ≡ times_in xs c
times_others c k zero xs not = refl
times_others c k (suc n) xs not =
    let one = times_cons c k (replicate n k ++ xs) false not in
    let more = times_others c k n xs not in
    omega arith

no_times_step : (c x : Cell) (xs : List Cell) (b : Bool) → same_cell c x ≡ b → list_any (same_cell c) (x ∷ xs) ≡ false → (list_any (same_cell c) xs ≡ false → times_in xs c ≡ 0) → times_in (x ∷ xs) c ≡ 0
no_times_step c x xs true is none later = let wrong : true ≡ false = rw is at none in absurd (cc)
no_times_step c x xs false is none later =
    let one = times_cons c x xs false is in
    let more = later (rw is at none) in
    omega arith

no_times : (c : Cell) (xs : List Cell) → list_any (same_cell c) xs ≡ false → times_in xs c ≡ 0
no_times c [] none = refl
no_times c (x ∷ xs) none = no_times_step c x xs (same_cell c x) refl none (no_times c xs)

-- the counts are those of the list, and none is 0
abbrev pub AreTimes : List Cell → Counts → Type 0
AreTimes all es = AllByRecursion (λ e. (times_in all e.0 ≡ e.1) × (0 < e.1)) es

times_above : (k : Cell) (n : ℕ) (all : List Cell) (es : Counts) → AllAbove k (keys_of es) → AreTimes all es → AreTimes (replicate n k ++ all) es
times_above k n all [] above times = times
times_above k n all (e ∷ es) above times =
    let not : same_cell e.0 k ≡ false = ap is_eq (before k e.0 above.0) in
    ((times_others e.0 k n all not ∙ times.0.0, times.0.1), times_above k n all es above.1 times.1)

-- each cell stands in the list as often as its count says
pub times-counts : (es : Counts) → IsSorted es → AreSome es → AreTimes (repeated es) es
unfolding IsStrictlySortedBy
times-counts [] sorted some = tt
times-counts (e ∷ es) sorted some =
    let same : same_cell e.0 e.0 ≡ true = ap is_eq (itself e.0) in
    let none = no_times e.0 (repeated es) (none_above e.0 (repeated es) (above_repeated e.0 es sorted.0)) in
    let times = times_copies e.0 e.0 e.1 (repeated es) same in
    ((omega arith, some_head e es some), times_above e.0 e.1 (repeated es) es sorted.0 (times-counts es sorted.1 (some_tail e es some)))

-- ---- the most frequent

-- going on from the best so far
abbrev pub best_from : List Cell → Option Cell → List Cell → Option Cell
best_from all None rest = reduce (more_frequent all) rest
best_from all (Some best) rest = Some (fold (more_frequent all) best rest)

again : (all : List Cell) (k : Cell) → more_frequent all k k ≡ k
again all k = let same : nat_lt (times_in all k) (times_in all k) ≡ false = le-ltb (times_in all k) (times_in all k) (omega arith) in rw same refl

fold_again : (all : List Cell) (k : Cell) (n : ℕ) (xs : List Cell) → fold (more_frequent all) k (replicate n k ++ xs) ≡ fold (more_frequent all) k xs
fold_again all k zero xs = refl
fold_again all k (suc n) xs = ap (λ z. fold (more_frequent all) z (replicate n k ++ xs)) (again all k) ∙ fold_again all k n xs

fold_kept : (all : List Cell) (best k : Cell) (n : ℕ) (xs : List Cell) → more_frequent all best k ≡ best → fold (more_frequent all) best (replicate n k ++ xs) ≡ fold (more_frequent all) best xs
fold_kept all best k zero xs kept = refl
fold_kept all best k (suc n) xs kept = ap (λ z. fold (more_frequent all) z (replicate n k ++ xs)) kept ∙ fold_kept all best k n xs kept

-- the best so far stands `most` times, which is 0 where there is none
abbrev pub IsBest : List Cell → Option Cell → ℕ → Type 0
IsBest all None most = most ≡ 0
IsBest all (Some best) most = times_in all best ≡ most

-- a cell that is more frequent than the best so far takes its place
pub best_replaced : (all : List Cell) (o : Option Cell) (most : ℕ) (k : Cell) (n : ℕ) (xs : List Cell) → IsBest all o most → times_in all k ≡ n → most < n
    → best_from all o (replicate n k ++ xs) ≡ best_from all (Some k) xs
best_replaced all None most k zero xs is times more = absurd (omega arith)
best_replaced all None most k (suc n) xs is times more = ap Some (fold_again all k n xs)
best_replaced all (Some best) most k zero xs is times more = absurd (omega arith)
best_replaced all (Some best) most k (suc n) xs is times more =
    let better : nat_lt (times_in all best) (times_in all k) ≡ true = lt-ltb (times_in all best) (times_in all k) (omega arith) in
    let taken : more_frequent all best k ≡ k = rw better refl in
    ap Some (ap (λ z. fold (more_frequent all) z (replicate n k ++ xs)) taken ∙ fold_again all k n xs)

-- another leaves it
pub best_kept : (all : List Cell) (o : Option Cell) (most : ℕ) (k : Cell) (n : ℕ) (xs : List Cell) → IsBest all o most → times_in all k ≡ n → 0 < n → n ≤ most
    → best_from all o (replicate n k ++ xs) ≡ best_from all o xs
best_kept all None most k n xs is times some less = absurd (omega arith)
best_kept all (Some best) most k n xs is times some less =
    let not_better : nat_lt (times_in all best) (times_in all k) ≡ false = le-ltb (times_in all best) (times_in all k) (omega arith) in
    let kept : more_frequent all best k ≡ best = rw not_better refl in
    ap Some (fold_kept all best k n xs kept)
