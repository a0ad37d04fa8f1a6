-- The others in the order of cells: what a cell more or a cell less makes of them.
use Rattle.std.proofs.Common.{◌≡◌, suc, ◌<◌, ◌≤◌, Bool, true, false, cond, Less, Equal, Greater, List, [], ◌∷◌, length, Some, refl, sym, ap, ◌∙◌, arith, subst, fold}
use Rattle.std.specs.declared.cmp.Ordering.{Ordering}
use Rattle.std.specs.List.{AllByRecursion}
use Rattle.std.specs.Ordering.{is_lt}
use Rattle.std.specs.Set.{remove_key}
use Rattle.plain_data.specs.Sorting.{insert_by}
use Rattle.cell_core.proofs.CellOrder as order
use Rattle.cell_core.specs.Cells.{cell_order, same_cell}
use Rattle.cell_core.specs.Limits.{max_rows}
use Rattle.cell_core.specs.declared.cell.Cell.{Cell}
use Rattle.plan_types.specs.declared.aggregate.AggName.{AggName}
use Rattle.agg_core.specs.Aggregates.{is_other, others, ascending}
use Rattle.agg_core.specs.Bags.{with_other, without_other, IsBagOf}
use Rattle.agg_core.specs.Pairs.{cells_of, cell_at, with_pair, without_key}
use Rattle.agg_core.specs.Standing.{CanAdd}
use Rattle.agg_core.proofs.Cells.{same_itself, after, before, Less-from_is_lt}
use Rattle.agg_core.proofs.PairLists.{IsOrderless, measure-with_pair, measure-without_key, length-cells_of, ArePairs-nil, ArePairs-with_pair, ArePairs-without_key}

-- ---- insertions commute

-- two cells that are told apart stand one before the other
sides : (a b : Cell) → is_lt (cell_order a b) ≡ false → is_lt (cell_order b a) ≡ false → a ≡ b
sides a b p q = at_side (cell_order a b) refl
  where
    at_side : (o : Ordering) → cell_order a b ≡ o → a ≡ b
    at_side Less is = let wrong : true ≡ false = ap is_lt (sym is) ∙ p in absurd (cc)
    at_side Equal is = order.exact a b is
    at_side Greater is = let wrong : true ≡ false = ap is_lt (sym (after a b is)) ∙ q in absurd (cc)

not_both : (a b : Cell) → is_lt (cell_order a b) ≡ true → is_lt (cell_order b a) ≡ false
not_both a b p = at_side (cell_order a b) refl
  where
    at_side : (o : Ordering) → cell_order a b ≡ o → is_lt (cell_order b a) ≡ false
    at_side Less is = ap is_lt (before a b is)
    at_side Equal is = let wrong : false ≡ true = ap is_lt (sym is) ∙ p in absurd (cc)
    at_side Greater is = let wrong : false ≡ true = ap is_lt (sym is) ∙ p in absurd (cc)

chain : (a b c : Cell) → is_lt (cell_order a b) ≡ true → is_lt (cell_order b c) ≡ true → is_lt (cell_order a c) ≡ true
chain a b c p q =
    ap is_lt (order.total.trans a b c (Less-from_is_lt (cell_order a b) p) (Less-from_is_lt (cell_order b c) q))

abbrev pub put : Cell → List Cell → List Cell
put = insert_by cell_order

front_two : (a b : Cell) (xs : List Cell) (p q : Bool) → is_lt (cell_order a b) ≡ p → is_lt (cell_order b a) ≡ q
    → cond p (a ∷ b ∷ xs) (b ∷ a ∷ xs) ≡ cond q (b ∷ a ∷ xs) (a ∷ b ∷ xs)
front_two a b xs true true p q = let wrong : true ≡ false = sym q ∙ not_both a b p in absurd (cc)
front_two a b xs true false p q = refl
front_two a b xs false true p q = refl
front_two a b xs false false p q = let same = sides a b p q in λ i. sym same i ∷ same i ∷ xs

not_before : (a b y : Cell) → is_lt (cell_order a y) ≡ true → is_lt (cell_order b y) ≡ false → is_lt (cell_order b a) ≡ false
not_before a b y p q = at_side (is_lt (cell_order b a)) refl
  where
    at_side : (r : Bool) → is_lt (cell_order b a) ≡ r → is_lt (cell_order b a) ≡ false
    at_side true is = let wrong : true ≡ false = sym (chain b a y is p) ∙ q in absurd (cc)
    at_side false is = is

swap_step : (a b y : Cell) (ys : List Cell) (p q : Bool) → is_lt (cell_order a y) ≡ p → is_lt (cell_order b y) ≡ q
    → put a (put b ys) ≡ put b (put a ys) → put a (put b (y ∷ ys)) ≡ put b (put a (y ∷ ys))
swap_step a b y ys true true p q later =
    simp (p, q) (front_two a b (y ∷ ys) (is_lt (cell_order a b)) (is_lt (cell_order b a)) refl refl)
swap_step a b y ys true false p q later = let other = not_before a b y p q in simp (p, q, other) refl
swap_step a b y ys false true p q later = let other = not_before b a y q p in simp (p, q, other) refl
swap_step a b y ys false false p q later = simp (p, q) (ap (λ z. y ∷ z) later)

swap_puts : (a b : Cell) (xs : List Cell) → put a (put b xs) ≡ put b (put a xs)
swap_puts a b [] = front_two a b [] (is_lt (cell_order a b)) (is_lt (cell_order b a)) refl refl
swap_puts a b (y ∷ ys) = swap_step a b y ys (is_lt (cell_order a y)) (is_lt (cell_order b y)) refl refl (swap_puts a b ys)

-- ---- sorting

abbrev put_all : List Cell → List Cell → List Cell
put_all = fold (λ sorted x. put x sorted)

put_later : (a : Cell) (acc xs : List Cell) → put_all (put a acc) xs ≡ put a (put_all acc xs)
put_later a acc [] = refl
put_later a acc (x ∷ xs) = ap (λ z. put_all z xs) (swap_puts x a acc) ∙ put_later a (put x acc) xs

more_step : (c : Cell) (cells : List Cell) (b : Bool) → is_other c ≡ b → ascending (c ∷ cells) ≡ with_other (ascending cells) c
more_step c cells true is = rw is (put_later c [] (others cells))
more_step c cells false is = rw is refl

ascending_more : (c : Cell) (cells : List Cell) → ascending (c ∷ cells) ≡ with_other (ascending cells) c
ascending_more c cells = more_step c cells (is_other c) refl

with_swap : (a b : Cell) (xs : List Cell) (p q : Bool) → is_other a ≡ p → is_other b ≡ q → with_other (with_other xs b) a ≡ with_other (with_other xs a) b
with_swap a b xs true true p q = simp (p, q) (swap_puts a b xs)
with_swap a b xs true false p q = simp (p, q) refl
with_swap a b xs false true p q = simp (p, q) refl
with_swap a b xs false false p q = simp (p, q) refl

ascending-orderless : IsOrderless ascending
ascending-orderless = record {
  swap = λ a b cells.
      ascending_more a (b ∷ cells) ∙ ap (λ z. with_other z a) (ascending_more b cells) ∙ with_swap a b (ascending cells) (is_other a) (is_other b) refl refl
      ∙ sym (ap (λ z. with_other z b) (ascending_more a cells)) ∙ sym (ascending_more b (a ∷ cells));
  more = λ a xs ys h. ascending_more a xs ∙ ap (λ z. with_other z a) h ∙ sym (ascending_more a ys);
}

-- ---- ascending lists

-- no cell stands before an earlier one
abbrev IsUp : List Cell → Type 0
IsUp [] = Unit {0}
IsUp (x ∷ xs) = AllByRecursion (λ y. is_lt (cell_order y x) ≡ false) xs × IsUp xs

all_put_step : (P : Cell → Type 0) (c y : Cell) (ys : List Cell) (b : Bool) → is_lt (cell_order c y) ≡ b → P c → AllByRecursion P (y ∷ ys) → AllByRecursion P (put c ys) → AllByRecursion P (put c (y ∷ ys))
all_put_step P c y ys true is here all more = rw is (here, all)
all_put_step P c y ys false is here all more = rw is (all.0, more)

all_put : (P : Cell → Type 0) (c : Cell) (xs : List Cell) → P c → AllByRecursion P xs → AllByRecursion P (put c xs)
all_put P c [] here all = (here, tt)
all_put P c (y ∷ ys) here all = all_put_step P c y ys (is_lt (cell_order c y)) refl here all (all_put P c ys here all.1)

-- what doesn't stand before x doesn't stand before what stands before x
lower : (c x : Cell) → is_lt (cell_order c x) ≡ true → (xs : List Cell) → AllByRecursion (λ y. is_lt (cell_order y x) ≡ false) xs → AllByRecursion (λ y. is_lt (cell_order y c) ≡ false) xs
lower c x less [] all = all
lower c x less (y ∷ ys) all = (not_before c y x less all.0, lower c x less ys all.1)

up_step : (c x : Cell) (xs : List Cell) (b : Bool) → is_lt (cell_order c x) ≡ b → IsUp (x ∷ xs) → IsUp (put c xs) → IsUp (put c (x ∷ xs))
up_step c x xs true is up more = rw is ((not_both c x is, lower c x is xs up.0), up)
up_step c x xs false is up more = rw is (all_put (λ y. is_lt (cell_order y x) ≡ false) c xs is up.0, more)

up_put : (c : Cell) (xs : List Cell) → IsUp xs → IsUp (put c xs)
up_put c [] up = (tt, tt)
up_put c (x ∷ xs) up = up_step c x xs (is_lt (cell_order c x)) refl up (up_put c xs up.1)

up_all : (acc xs : List Cell) → IsUp acc → IsUp (put_all acc xs)
up_all acc [] up = up
up_all acc (x ∷ xs) up = up_all (put x acc) xs (up_put x acc up)

up_ascending : (cells : List Cell) → IsUp (ascending cells)
up_ascending cells = up_all [] (others cells) tt

-- ---- what is put in comes out

put_front_step : (c y : Cell) (ys : List Cell) (b : Bool) → is_lt (cell_order c y) ≡ b → is_lt (cell_order y c) ≡ false → put c ys ≡ c ∷ ys → put c (y ∷ ys) ≡ c ∷ y ∷ ys
put_front_step c y ys true is not later = rw is refl
put_front_step c y ys false is not later =
    let same = sides c y is not in
    rw is (λ i. sym same i ∷ (later ∙ ap (λ z. z ∷ ys) same) i)

-- put before cells that it doesn't stand after
put_front : (c : Cell) (xs : List Cell) → IsUp xs → AllByRecursion (λ y. is_lt (cell_order y c) ≡ false) xs → put c xs ≡ c ∷ xs
put_front c [] up all = refl
put_front c (y ∷ ys) up all = put_front_step c y ys (is_lt (cell_order c y)) refl all.0 (put_front c ys up.1 all.1)

off_step : (c x : Cell) (xs : List Cell) (o : Ordering) → cell_order c x ≡ o → IsUp (x ∷ xs) → remove_key (same_cell c) (put c xs) ≡ xs → remove_key (same_cell c) (put c (x ∷ xs)) ≡ x ∷ xs
off_step c x xs Less is up later =
    let here = same_itself c in
    rw (is, here) refl
off_step c x xs Equal is up later =
    let same = order.exact c x is in
    let all : AllByRecursion (λ y. is_lt (cell_order y c) ≡ false) xs = subst (λ z. AllByRecursion (λ y. is_lt (cell_order y z) ≡ false) xs) (sym same) up.0 in
    simp is (put_front c xs up.1 all ∙ ap (λ z. z ∷ xs) same)
off_step c x xs Greater is up later = simp is (ap (λ z. x ∷ z) later)

off_put : (c : Cell) (xs : List Cell) → IsUp xs → remove_key (same_cell c) (put c xs) ≡ xs
off_put c [] up = let here = same_itself c in rw here refl
off_put c (x ∷ xs) up = off_step c x xs (cell_order c x) refl up (off_put c xs up.1)

without_with : (c : Cell) (xs : List Cell) (b : Bool) → is_other c ≡ b → IsUp xs → without_other (with_other xs c) c ≡ xs
without_with c xs true is up = simp is (off_put c xs up)
without_with c xs false is up = simp is refl

-- ---- the bag of a list of pairs

pub IsBagOf-nil : (name : AggName) (bag : List Cell) → bag ≡ [] → IsBagOf name bag []
IsBagOf-nil name bag none = record { are_pairs = ArePairs-nil name; bag_is = none }

pub IsBagOf-with_pair : (name : AggName) (old new : List Cell) (key c : Cell) → new ≡ with_other old c → (pairs : List (Cell × Cell)) → IsBagOf name old pairs → CanAdd name pairs key c → IsBagOf name new (with_pair pairs key c)
IsBagOf-with_pair name old new key c is pairs bag can = record {
  are_pairs = ArePairs-with_pair name pairs key c bag.are_pairs can;
  bag_is =
      is ∙ ap (λ z. with_other z c) bag.bag_is ∙ sym (ascending_more c (cells_of pairs))
      ∙ sym (measure-with_pair ascending ascending-orderless pairs key c can.absent);
}

pub IsBagOf-without_key : (name : AggName) (old new : List Cell) (key c : Cell) → new ≡ without_other old c → (pairs : List (Cell × Cell)) → IsBagOf name old pairs → cell_at pairs key ≡ Some c → IsBagOf name new (without_key pairs key)
IsBagOf-without_key name old new key c is pairs bag there =
    let left = cells_of (without_key pairs key) in
    record {
      are_pairs = ArePairs-without_key name pairs key c bag.are_pairs there;
      bag_is =
          is ∙ ap (λ z. without_other z c) (bag.bag_is ∙ measure-without_key ascending ascending-orderless pairs key c there ∙ ascending_more c left)
          ∙ without_with c (ascending left) (is_other c) refl (up_ascending left);
    }

length_put_step : (c y : Cell) (ys : List Cell) (b : Bool) → is_lt (cell_order c y) ≡ b → length (put c ys) ≡ suc (length ys) → length (put c (y ∷ ys)) ≡ suc (suc (length ys))
length_put_step c y ys true is later = rw is refl
length_put_step c y ys false is later = rw is (ap suc later)

pub length_put : (c : Cell) (xs : List Cell) → length (put c xs) ≡ suc (length xs)
length_put c [] = refl
length_put c (y ∷ ys) = length_put_step c y ys (is_lt (cell_order c y)) refl (length_put c ys)

length_with : (c : Cell) (xs : List Cell) (b : Bool) → is_other c ≡ b → length (with_other xs c) ≤ suc (length xs)
length_with c xs true is = let longer = length_put c xs in rw is (omega arith)
length_with c xs false is = rw is (omega arith)

length_ascending : (cells : List Cell) → length (ascending cells) ≤ length cells
length_ascending [] = omega arith
length_ascending (c ∷ cells) =
    let within = length_ascending cells in
    let longer = length_with c (ascending cells) (is_other c) refl in
    rw (ascending_more c cells) (omega arith)

-- a bag has room where the pairs have
pub bag_has_room : (name : AggName) (bag : List Cell) (key c : Cell) → ((pairs : List (Cell × Cell)) × IsBagOf name bag pairs × CanAdd name pairs key c) → length bag < max_rows
bag_has_room name bag key c (pairs, is, can) =
    let same = ap length is.bag_is in
    let within = length_ascending (cells_of pairs) in
    let lengths = length-cells_of pairs in
    let room = can.room in
    omega arith
