-- Counted cells as the list of the cells: what a count more or less makes of it, and what is read from its ends.
use Rattle.std.proofs.Common.{◌≡◌, ℕ, zero, suc, ◌+◌, ◌-◌, ◌<◌, ◌≤◌, ◌^◌, Bool, true, false, Less, Equal, Greater, List, [], ◌∷◌, ◌++◌, length, replicate, Option, Some, None, is_some, All, refl, sym, ap, ◌∙◌, arith, subst}
use Rattle.std.specs.declared.cmp.Ordering.{Ordering}
use Rattle.std.specs.BTreeMap.{insert_entry}
use Rattle.std.specs.List.{AllByRecursion, list_any}
use Rattle.std.specs.List.Sorted.{IsStrictlySortedBy}
use Rattle.std.specs.Map.{keys_of, values_of, lookup, set_value, remove_entry}
use Rattle.std.specs.Option.{IfSome}
use Rattle.std.specs.Ordering.{is_lt}
use Rattle.std.specs.Set.{remove_key}
use Rattle.std.proofs.lemmas.Map.Views.{IfSome-lookup_from_All}
use Rattle.cell_core.proofs.CellOrder as order
use Rattle.cell_core.specs.Cells.{cell_order, same_cell}
use Rattle.cell_core.specs.Limits.{max_rows}
use Rattle.cell_core.specs.declared.cell.Cell.{Cell}
use Rattle.agg_core.specs.Bags.{repeated, AreCounts}
use Rattle.agg_core.proofs.Ascending.{put, length_put}
use Rattle.agg_core.proofs.PairLists.{less_than_all}

abbrev pub Counts : Type 0
Counts = List (Cell × ℕ)

abbrev pub count_at : Counts → Cell → Option ℕ
count_at counts c = lookup (same_cell c) counts

abbrev pub IsSorted : Counts → Type 0
IsSorted counts = IsStrictlySortedBy cell_order (keys_of counts)

abbrev pub AllAbove : Cell → List Cell → Type 0
AllAbove c cells = AllByRecursion (λ y. cell_order c y ≡ Less) cells

-- ---- cells above another

above_copies : (c k : Cell) (n : ℕ) (xs : List Cell) → cell_order c k ≡ Less → AllAbove c xs → AllAbove c (replicate n k ++ xs)
above_copies c k zero xs less all = all
above_copies c k (suc n) xs less all = (less, above_copies c k n xs less all)

pub above_repeated : (c : Cell) (es : Counts) → AllAbove c (keys_of es) → AllAbove c (repeated es)
above_repeated c [] all = tt
above_repeated c (e ∷ es) all = above_copies c e.0 e.1 (repeated es) all.0 (above_repeated c es all.1)

put_above : (c : Cell) (xs : List Cell) → AllAbove c xs → put c xs ≡ c ∷ xs
put_above c [] all = refl
put_above c (y ∷ ys) all = let less = all.0 in rw less refl

put_past : (c k : Cell) (n : ℕ) (xs : List Cell) → is_lt (cell_order c k) ≡ false → put c (replicate n k ++ xs) ≡ replicate n k ++ put c xs
put_past c k zero xs not = refl
put_past c k (suc n) xs not = rw not (ap (λ z. k ∷ z) (put_past c k n xs not))

one_more_copy : (c : Cell) (n : ℕ) (xs : List Cell) → replicate n c ++ c ∷ xs ≡ c ∷ (replicate n c ++ xs)
one_more_copy c zero xs = refl
one_more_copy c (suc n) xs = ap (λ z. c ∷ z) (one_more_copy c n xs)

-- ---- a count more

absent_below : (c : Cell) (keys : Counts) → AllAbove c (keys_of keys) → count_at keys c ≡ None
absent_below c [] all = refl
absent_below c (e ∷ es) all = let less = all.0 in rw less (absent_below c es all.1)

set_more_step : (c : Cell) (e : Cell × ℕ) (es : Counts) (n : ℕ) (o : Ordering) → cell_order c e.0 ≡ o → AllAbove e.0 (keys_of es) → count_at (e ∷ es) c ≡ Some n
    → (count_at es c ≡ Some n → repeated (set_value (same_cell c) es (suc n)) ≡ put c (repeated es))
    → repeated (set_value (same_cell c) (e ∷ es) (suc n)) ≡ put c (repeated (e ∷ es))
set_more_step c e es n Less is above there later =
    let none : count_at es c ≡ None = absent_below c es (less_than_all c e.0 is (keys_of es) above) in
    let found : count_at es c ≡ Some n = rw is at there in
    absurd (cc)
set_more_step c e es n Equal is above there later =
    let same : c ≡ e.0 = order.exact c e.0 is in
    let found : Some e.1 ≡ Some n = rw is at there in
    let count : e.1 ≡ n = cc in
    let not : is_lt (cell_order c e.0) ≡ false = ap is_lt is in
    let front : put c (repeated es) ≡ c ∷ repeated es = put_above c (repeated es) (above_repeated c es (subst (λ z. AllAbove z (keys_of es)) (sym same) above)) in
    rw is (sym (put_past c e.0 e.1 (repeated es) not ∙ ap (λ z. replicate e.1 e.0 ++ z) front ∙ ap (λ z. replicate e.1 e.0 ++ z ∷ repeated es) same ∙ one_more_copy e.0 e.1 (repeated es) ∙ ap (λ m. e.0 ∷ (replicate m e.0 ++ repeated es)) count))
set_more_step c e es n Greater is above there later =
    let found : count_at es c ≡ Some n = rw is at there in
    let not : is_lt (cell_order c e.0) ≡ false = ap is_lt is in
    rw is (ap (λ z. replicate e.1 e.0 ++ z) (later found) ∙ sym (put_past c e.0 e.1 (repeated es) not))

pub set_more : (c : Cell) (es : Counts) (n : ℕ) → IsSorted es → count_at es c ≡ Some n → repeated (set_value (same_cell c) es (suc n)) ≡ put c (repeated es)
unfolding IsStrictlySortedBy
set_more c [] n sorted there = absurd (cc)
set_more c (e ∷ es) n sorted there = set_more_step c e es n (cell_order c e.0) refl sorted.0 there (set_more c es n sorted.1)

insert_more_step : (c : Cell) (e : Cell × ℕ) (es : Counts) (o : Ordering) → cell_order c e.0 ≡ o → AllAbove e.0 (keys_of es) → count_at (e ∷ es) c ≡ None
    → (count_at es c ≡ None → repeated (insert_entry cell_order es c 1) ≡ put c (repeated es))
    → repeated (insert_entry cell_order (e ∷ es) c 1) ≡ put c (repeated (e ∷ es))
insert_more_step c e es Less is above none later =
    let all : AllAbove c (keys_of (e ∷ es)) = (is, less_than_all c e.0 is (keys_of es) above) in
    rw is (sym (put_above c (repeated (e ∷ es)) (above_repeated c (e ∷ es) all)))
insert_more_step c e es Equal is above none later = let found : Some e.1 ≡ None = rw is at none in absurd (cc)
insert_more_step c e es Greater is above none later =
    let absent : count_at es c ≡ None = rw is at none in
    let not : is_lt (cell_order c e.0) ≡ false = ap is_lt is in
    rw is (ap (λ z. replicate e.1 e.0 ++ z) (later absent) ∙ sym (put_past c e.0 e.1 (repeated es) not))

pub insert_more : (c : Cell) (es : Counts) → IsSorted es → count_at es c ≡ None → repeated (insert_entry cell_order es c 1) ≡ put c (repeated es)
unfolding IsStrictlySortedBy
insert_more c [] sorted none = refl
insert_more c (e ∷ es) sorted none = insert_more_step c e es (cell_order c e.0) refl sorted.0 none (insert_more c es sorted.1)

-- ---- a count less

off_past : (c k : Cell) (n : ℕ) (xs : List Cell) → same_cell c k ≡ false → remove_key (same_cell c) (replicate n k ++ xs) ≡ replicate n k ++ remove_key (same_cell c) xs
off_past c k zero xs not = refl
off_past c k (suc n) xs not = rw not (ap (λ z. k ∷ z) (off_past c k n xs not))

set_less_step : (c : Cell) (e : Cell × ℕ) (es : Counts) (n : ℕ) (b : Bool) → same_cell c e.0 ≡ b → count_at (e ∷ es) c ≡ Some (suc n)
    → (count_at es c ≡ Some (suc n) → repeated (set_value (same_cell c) es n) ≡ remove_key (same_cell c) (repeated es))
    → repeated (set_value (same_cell c) (e ∷ es) n) ≡ remove_key (same_cell c) (repeated (e ∷ es))
set_less_step c e es n true is there later =
    let found : Some e.1 ≡ Some (suc n) = rw is at there in
    let count : e.1 ≡ suc n = cc in
    let front : remove_key (same_cell c) (replicate (suc n) e.0 ++ repeated es) ≡ replicate n e.0 ++ repeated es = rw is refl in
    let step : replicate n e.0 ++ repeated es ≡ remove_key (same_cell c) (replicate e.1 e.0 ++ repeated es) = sym (ap (λ m. remove_key (same_cell c) (replicate m e.0 ++ repeated es)) count ∙ front) in
    rw is step
set_less_step c e es n false is there later =
    let found : count_at es c ≡ Some (suc n) = rw is at there in
    rw is (ap (λ z. replicate e.1 e.0 ++ z) (later found) ∙ sym (off_past c e.0 e.1 (repeated es) is))

pub set_less : (c : Cell) (es : Counts) (n : ℕ) → count_at es c ≡ Some (suc n) → repeated (set_value (same_cell c) es n) ≡ remove_key (same_cell c) (repeated es)
set_less c [] n there = absurd (cc)
set_less c (e ∷ es) n there = set_less_step c e es n (same_cell c e.0) refl there (set_less c es n)

remove_last_step : (c : Cell) (e : Cell × ℕ) (es : Counts) (b : Bool) → same_cell c e.0 ≡ b → count_at (e ∷ es) c ≡ Some 1
    → (count_at es c ≡ Some 1 → repeated (remove_entry (same_cell c) es) ≡ remove_key (same_cell c) (repeated es))
    → repeated (remove_entry (same_cell c) (e ∷ es)) ≡ remove_key (same_cell c) (repeated (e ∷ es))
remove_last_step c e es true is there later =
    let found : Some e.1 ≡ Some 1 = rw is at there in
    let count : e.1 ≡ 1 = cc in
    let front : remove_key (same_cell c) (replicate 1 e.0 ++ repeated es) ≡ repeated es = rw is refl in
    let step : repeated es ≡ remove_key (same_cell c) (replicate e.1 e.0 ++ repeated es) = sym (ap (λ m. remove_key (same_cell c) (replicate m e.0 ++ repeated es)) count ∙ front) in
    rw is step
remove_last_step c e es false is there later =
    let found : count_at es c ≡ Some 1 = rw is at there in
    rw is (ap (λ z. replicate e.1 e.0 ++ z) (later found) ∙ sym (off_past c e.0 e.1 (repeated es) is))

pub remove_last : (c : Cell) (es : Counts) → count_at es c ≡ Some 1 → repeated (remove_entry (same_cell c) es) ≡ remove_key (same_cell c) (repeated es)
remove_last c [] there = absurd (cc)
remove_last c (e ∷ es) there = remove_last_step c e es (same_cell c e.0) refl there (remove_last c es)

off_absent_step : (c : Cell) (e : Cell × ℕ) (es : Counts) (b : Bool) → same_cell c e.0 ≡ b → count_at (e ∷ es) c ≡ None
    → (count_at es c ≡ None → repeated es ≡ remove_key (same_cell c) (repeated es)) → repeated (e ∷ es) ≡ remove_key (same_cell c) (repeated (e ∷ es))
off_absent_step c e es true is none later = let found : Some e.1 ≡ None = rw is at none in absurd (cc)
off_absent_step c e es false is none later =
    let absent : count_at es c ≡ None = rw is at none in
    ap (λ z. replicate e.1 e.0 ++ z) (later absent) ∙ sym (off_past c e.0 e.1 (repeated es) is)

pub off_absent : (c : Cell) (es : Counts) → count_at es c ≡ None → repeated es ≡ remove_key (same_cell c) (repeated es)
off_absent c [] none = refl
off_absent c (e ∷ es) none = off_absent_step c e es (same_cell c e.0) refl none (off_absent c es)

-- ---- how many cells there are

length_copies : (k : Cell) (n : ℕ) (xs : List Cell) → length (replicate n k ++ xs) ≡ n + length xs
length_copies k zero xs = omega arith
length_copies k (suc n) xs = let more = length_copies k n xs in omega arith

any_past : (c k : Cell) (n : ℕ) (xs : List Cell) → same_cell c k ≡ false → list_any (same_cell c) (replicate n k ++ xs) ≡ list_any (same_cell c) xs
any_past c k zero xs not = refl
any_past c k (suc n) xs not = rw not (any_past c k n xs not)

there_step : (c : Cell) (e : Cell × ℕ) (es : Counts) (n : ℕ) (b : Bool) → same_cell c e.0 ≡ b → count_at (e ∷ es) c ≡ Some (suc n)
    → (count_at es c ≡ Some (suc n) → list_any (same_cell c) (repeated es) ≡ true) → list_any (same_cell c) (repeated (e ∷ es)) ≡ true
there_step c e es n true is there later =
    let found : Some e.1 ≡ Some (suc n) = rw is at there in
    let count : e.1 ≡ suc n = cc in
    let front : list_any (same_cell c) (replicate (suc n) e.0 ++ repeated es) ≡ true = rw is refl in
    ap (λ m. list_any (same_cell c) (replicate m e.0 ++ repeated es)) count ∙ front
there_step c e es n false is there later =
    let found : count_at es c ≡ Some (suc n) = rw is at there in
    any_past c e.0 e.1 (repeated es) is ∙ later found

there_any : (c : Cell) (es : Counts) (n : ℕ) → count_at es c ≡ Some (suc n) → list_any (same_cell c) (repeated es) ≡ true
there_any c [] n there = absurd (cc)
there_any c (e ∷ es) n there = there_step c e es n (same_cell c e.0) refl there (there_any c es n)

length_off_step : (c x : Cell) (xs : List Cell) (b : Bool) → same_cell c x ≡ b → list_any (same_cell c) (x ∷ xs) ≡ true
    → (list_any (same_cell c) xs ≡ true → length xs ≡ suc (length (remove_key (same_cell c) xs))) → length (x ∷ xs) ≡ suc (length (remove_key (same_cell c) (x ∷ xs)))
length_off_step c x xs true is there later = rw is refl
length_off_step c x xs false is there later =
    let found : list_any (same_cell c) xs ≡ true = rw is at there in
    rw is (ap suc (later found))

length_off : (c : Cell) (xs : List Cell) → list_any (same_cell c) xs ≡ true → length xs ≡ suc (length (remove_key (same_cell c) xs))
length_off c [] there = absurd (cc)
length_off c (x ∷ xs) there = length_off_step c x xs (same_cell c x) refl there (length_off c xs)

count_within_step : (c : Cell) (e : Cell × ℕ) (es : Counts) (n : ℕ) (b : Bool) → same_cell c e.0 ≡ b → count_at (e ∷ es) c ≡ Some n
    → (count_at es c ≡ Some n → n ≤ length (repeated es)) → n ≤ length (repeated (e ∷ es))
count_within_step c e es n true is there later =
    let found : Some e.1 ≡ Some n = rw is at there in
    let count : e.1 ≡ n = cc in
    let lengths = length_copies e.0 e.1 (repeated es) in
    omega arith
count_within_step c e es n false is there later =
    let found : count_at es c ≡ Some n = rw is at there in
    let within = later found in
    let lengths = length_copies e.0 e.1 (repeated es) in
    omega arith

pub count_within : (c : Cell) (es : Counts) (n : ℕ) → count_at es c ≡ Some n → n ≤ length (repeated es)
count_within c [] n there = absurd (cc)
count_within c (e ∷ es) n there = count_within_step c e es n (same_cell c e.0) refl there (count_within c es n)

IfSome_is : (P : ℕ → Type 0) (o : Option ℕ) (n : ℕ) → IfSome o P → o ≡ Some n → P n
IfSome_is P None n holds is = absurd (cc)
IfSome_is P (Some m) n holds is = let same : m ≡ n = cc in subst P same holds

pub count_some : (c : Cell) (es : Counts) (n : ℕ) → All (λ n. 0 < n) (values_of es) → count_at es c ≡ Some n → 0 < n
count_some c es n some there = let P = λ (m : ℕ). 0 < m in IfSome_is P (count_at es c) n (IfSome-lookup_from_All P (same_cell c) es some) there

-- a count is small where there are few cells
pub count_small : (c : Cell) (es : Counts) → length (repeated es) < max_rows → IfSome (count_at es c) (λ n. n < 2 ^ 63)
count_small c es room = at_count (count_at es c) refl
  where
    at_count : (o : Option ℕ) → count_at es c ≡ o → IfSome o (λ n. n < 2 ^ 63)
    at_count None is = tt
    at_count (Some n) is = let within = count_within c es n is in omega arith

pub AreCounts-more : (c : Cell) (old new : Counts) (count : ℕ) → AreCounts old count → IsSorted new → All (λ n. 0 < n) (values_of new) → repeated new ≡ put c (repeated old) → AreCounts new (count + 1)
AreCounts-more c old new count are sorted some is = record {
  by_cell = sorted;
  some = some;
  count_is = let lengths = ap length is ∙ length_put c (repeated old) in let same = are.count_is in omega arith;
}

is_there : (c : Cell) (es : Counts) → All (λ n. 0 < n) (values_of es) → is_some (count_at es c) ≡ true → list_any (same_cell c) (repeated es) ≡ true
is_there c es some there = at_count (count_at es c) refl there
  where
    at_count : (o : Option ℕ) → count_at es c ≡ o → is_some o ≡ true → list_any (same_cell c) (repeated es) ≡ true
    at_count None is found = absurd (cc)
    at_count (Some zero) is found = let more = count_some c es zero some is in absurd (omega arith)
    at_count (Some (suc n)) is found = there_any c es n is

is_absent : (c : Cell) (es : Counts) → is_some (count_at es c) ≡ false → count_at es c ≡ None
is_absent c es none = at_count (count_at es c) refl none
  where
    at_count : (o : Option ℕ) → count_at es c ≡ o → is_some o ≡ false → count_at es c ≡ None
    at_count None is found = is
    at_count (Some n) is found = absurd (cc)

pub one_counted : (c : Cell) (es : Counts) (count : ℕ) → AreCounts es count → is_some (count_at es c) ≡ true → 1 ≤ count
one_counted c es count are there =
    let lengths = length_off c (repeated es) (is_there c es are.some there) in
    let same = are.count_is in
    omega arith

pub AreCounts-less : (c : Cell) (old new : Counts) (count : ℕ) → AreCounts old count → is_some (count_at old c) ≡ true → IsSorted new → All (λ n. 0 < n) (values_of new)
    → repeated new ≡ remove_key (same_cell c) (repeated old) → AreCounts new (count - 1)
AreCounts-less c old new count are there sorted some is = record {
  by_cell = sorted;
  some = some;
  count_is =
      let lengths = length_off c (repeated old) (is_there c old are.some there) in
      let shorter = ap length is in
      let same = are.count_is in
      omega arith;
}

pub AreCounts-same : (c : Cell) (old new : Counts) (count : ℕ) → AreCounts old count → is_some (count_at old c) ≡ false → IsSorted new → All (λ n. 0 < n) (values_of new)
    → repeated new ≡ remove_key (same_cell c) (repeated old) → AreCounts new count
AreCounts-same c old new count are none sorted some is = record {
  by_cell = sorted;
  some = some;
  count_is = are.count_is ∙ ap length (off_absent c old (is_absent c old none) ∙ sym is);
}
