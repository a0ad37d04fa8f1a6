-- What is read from counted cells: the first, the last, and how many are different.
use Rattle.std.proofs.Common.{◌≡◌, ℕ, zero, suc, ◌-◌, ◌<◌, false, List, [], ◌∷◌, ◌++◌, length, replicate, slice_get, Option, Some, None, All, refl, sym, ap, ◌∙◌, arith}
use Rattle.std.specs.List.{list_any, last_or}
use Rattle.std.specs.List.Sorted.{IsStrictlySortedBy}
use Rattle.std.specs.Map.{keys_of, values_of}
use Rattle.std.specs.Option.{option_map}
use Rattle.std.specs.Set.{unique_keys}
use Rattle.std.proofs.lemmas.List.Elements.{All-head, All-tail}
use Rattle.cell_core.specs.Cells.{same_cell}
use Rattle.cell_core.specs.declared.cell.Cell.{Cell}
use Rattle.agg_core.specs.Aggregates.{different, last_of}
use Rattle.agg_core.specs.Bags.{repeated}
use Rattle.agg_core.proofs.Cells.{itself}
use Rattle.agg_core.proofs.Repeats.{Counts, IsSorted, AllAbove, above_repeated}

abbrev pub AreSome : Counts → Type 0
AreSome es = All (λ n. 0 < n) (values_of es)

pub some_head : (e : Cell × ℕ) (es : Counts) → AreSome (e ∷ es) → 0 < e.1
some_head e es some = All-head (λ (n : ℕ). 0 < n) e.1 (values_of es) some

pub some_tail : (e : Cell × ℕ) (es : Counts) → AreSome (e ∷ es) → AreSome es
some_tail e es some = All-tail (λ (n : ℕ). 0 < n) e.1 (values_of es) some

-- ---- the first and the last

first_copy : (k : Cell) (n : ℕ) (xs : List Cell) → 0 < n → slice_get (replicate n k ++ xs) 0 ≡ Some k
first_copy k zero xs some = absurd (omega arith)
first_copy k (suc n) xs some = refl

pub repeated-first : (es : Counts) → AreSome es → slice_get (repeated es) 0 ≡ option_map (λ e. e.0) (slice_get es 0)
repeated-first [] some = refl
repeated-first (e ∷ es) some = first_copy e.0 e.1 (repeated es) (some_head e es some)

last_copies : (o : Option Cell) (k : Cell) (n : ℕ) (xs : List Cell) → 0 < n → last_or o (replicate n k ++ xs) ≡ last_or (Some k) xs
last_copies o k zero xs some = absurd (omega arith)
last_copies o k (suc zero) xs some = refl
last_copies o k (suc (suc n)) xs some = last_copies (Some k) k (suc n) xs (omega arith)

last_repeated : (o : Option Cell) (es : Counts) → AreSome es → last_or o (repeated es) ≡ last_or o (keys_of es)
last_repeated o [] some = refl
last_repeated o (e ∷ es) some =
    last_copies o e.0 e.1 (repeated es) (some_head e es some) ∙ last_repeated (Some e.0) es (some_tail e es some)

at_length : (x : Cell) (xs : List Cell) → slice_get (x ∷ xs) (length xs) ≡ last_or (Some x) xs
at_length x [] = refl
at_length x (y ∷ ys) = at_length y ys

last_of-last_or : (xs : List Cell) → last_of xs ≡ last_or None xs
last_of-last_or [] = refl
last_of-last_or (x ∷ xs) = let place : suc (length xs) - 1 ≡ length xs = omega arith in ap (slice_get (x ∷ xs)) place ∙ at_length x xs

get_key : {X : Type 0} (es : List (Cell × X)) (i : ℕ) → slice_get (keys_of es) i ≡ option_map (λ e. e.0) (slice_get es i)
get_key [] i = refl
get_key (e ∷ es) zero = refl
get_key (e ∷ es) (suc i) = get_key es i

length_keys : {X : Type 0} (es : List (Cell × X)) → length (keys_of es) ≡ length es
length_keys [] = refl
length_keys (e ∷ es) = ap suc (length_keys es)

pub repeated-last : (es : Counts) → AreSome es → last_of (repeated es) ≡ option_map (λ e. e.0) (slice_get es (length es - 1))
repeated-last es some =
    last_of-last_or (repeated es) ∙ last_repeated None es some ∙ sym (last_of-last_or (keys_of es)) ∙ ap (λ n. slice_get (keys_of es) (n - 1)) (length_keys es) ∙ get_key es (length es - 1)

-- ---- how many are different

pub none_above : (c : Cell) (xs : List Cell) → AllAbove c xs → list_any (same_cell c) xs ≡ false
none_above c [] all = refl
none_above c (x ∷ xs) all = let less = all.0 in rw less (none_above c xs all.1)

unique_step : (k : Cell) (xs : List Cell) → list_any (same_cell k) xs ≡ false → unique_keys same_cell (k ∷ xs) ≡ k ∷ unique_keys same_cell xs
unique_step k xs none = rw none refl

unique_again : (k : Cell) (xs : List Cell) → unique_keys same_cell (k ∷ k ∷ xs) ≡ unique_keys same_cell (k ∷ xs)
unique_again k xs = let here = itself k in rw here refl

unique_copies : (k : Cell) (n : ℕ) (xs : List Cell) → 0 < n → list_any (same_cell k) xs ≡ false → unique_keys same_cell (replicate n k ++ xs) ≡ k ∷ unique_keys same_cell xs
unique_copies k zero xs some none = absurd (omega arith)
unique_copies k (suc zero) xs some none = unique_step k xs none
unique_copies k (suc (suc n)) xs some none = unique_again k (replicate n k ++ xs) ∙ unique_copies k (suc n) xs (omega arith) none

pub repeated-different : (es : Counts) → IsSorted es → AreSome es → different (repeated es) ≡ length es
unfolding IsStrictlySortedBy
repeated-different [] sorted some = refl
repeated-different (e ∷ es) sorted some =
    ap length (unique_copies e.0 e.1 (repeated es) (some_head e es some) (none_above e.0 (repeated es) (above_repeated e.0 es sorted.0)))
    ∙ ap suc (repeated-different es sorted.1 (some_tail e es some))
