-- Running sums: what a pair that comes or goes makes of them, and how far from 0 they get.
use Rattle.std.proofs.Common.{◌≡◌, ℕ, suc, ◌+◌, ◌-◌, ◌*◌, ◌^◌, ◌<◌, ◌≤◌, List, [], ◌∷◌, length, map, Option, Some, None, is_some, cond, All, ℤ, pos, negsuc, neg_ℤ, ◌<ℤ◌, ◌≤ℤ◌, IsTrue, refl, sym, ap, ◌∙◌, arith, subst}
use Rattle.std.specs.List.{cons_option}
use Rattle.std.specs.Option.{option_map}
use Rattle.std.proofs.lemmas.Bool.{ltb-true}
use Rattle.std.proofs.lemmas.Int.{ints}
use Rattle.std.proofs.lemmas.List.Elements.{All-head, All-tail}
use Rattle.value_core.specs.Reduced.{IsInReach}
use Rattle.cell_core.specs.declared.cell.Cell.{Cell}
use Rattle.cell_core.specs.declared.cell.Cell.TheVariants as cell
use Rattle.plan_types.specs.declared.aggregate.AggName.{AggName}
use Rattle.cell_core.specs.Limits.{is_integer, max_rows}
use Rattle.agg_core.specs.Aggregates.{numbers, number_in, size_of, sum_of}
use Rattle.agg_core.specs.Numbers.{plus, minus, size_in, IsSmallSum, IsTotalOf}
use Rattle.agg_core.specs.Pairs.{cells_of, cell_at, with_pair, without_key}
use Rattle.agg_core.specs.Standing.{ArePairs, CanAdd}
use Rattle.agg_core.specs.Sums.{counted, counted_in}
use Rattle.agg_core.specs.declared.summed.SumForm.{SumForm}
use Rattle.agg_core.specs.declared.summed.SumForm.TheVariants as form
use Rattle.agg_core.specs.Types.{IsTaken}
use Rattle.agg_core.proofs.PairLists.{IsOrderless, measure-with_pair, measure-without_key, length-cells_of, ArePairs-nil, ArePairs-with_pair, ArePairs-without_key}

-- ---- numbers read from cells one by one

-- as near to 0 as a cell's whole number
abbrev pub IsCellNumber : ℤ → Type 0
IsCellNumber n = (neg_ℤ (pos (2 ^ 53)) <ℤ n) × (n <ℤ pos (2 ^ 53))

near_zero : (n : ℤ) → IsTrue (is_integer n) → IsCellNumber n
near_zero (pos n) h = let less = ltb-true n (2 ^ 53) h in (omega (arith, ints), omega (arith, ints))
near_zero (negsuc n) h = let less = ltb-true n (2 ^ 53 - 1) h in (omega (arith, ints), omega (arith, ints))

-- each cell gives at most one number, which is small where the cell is taken
pub record ReadsNumbers (numbers_of : List Cell → List ℤ) (number_of : Cell → Option ℤ) : Type 0 where
  pub none : numbers_of [] ≡ []
  pub more : (c : Cell) (cells : List Cell) → numbers_of (c ∷ cells) ≡ cons_option (number_of c) (numbers_of cells)
  pub small : (name : AggName) (c : Cell) → IsTaken name c → (n : ℤ) → number_of c ≡ Some n → IsCellNumber n

number_small : (name : AggName) (c : Cell) → IsTaken name c → (n : ℤ) → number_in c ≡ Some n → IsCellNumber n
number_small name cell.Null taken n is = absurd (cc)
number_small name (cell.Bool b) taken n is = absurd (cc)
number_small name (cell.Int m) taken n is = let same : m ≡ n = cc in subst IsCellNumber same (near_zero m taken.1)
number_small name (cell.Date d) taken n is = absurd (cc)
number_small name (cell.Moment t) taken n is = absurd (cc)
number_small name (cell.Words s) taken n is = absurd (cc)

size_bounded : (m : ℤ) → IsCellNumber m → IsCellNumber (size_of m)
size_bounded (pos m) is = (omega (arith, ints), omega (arith, ints))
size_bounded (negsuc m) is = (omega (arith, ints), omega (arith, ints))

size_small : (name : AggName) (c : Cell) → IsTaken name c → (n : ℤ) → size_in c ≡ Some n → IsCellNumber n
size_small name cell.Null taken n is = absurd (cc)
size_small name (cell.Bool b) taken n is = absurd (cc)
size_small name (cell.Int m) taken n is = let same : size_of m ≡ n = cc in subst IsCellNumber same (size_bounded m (near_zero m taken.1))
size_small name (cell.Date d) taken n is = absurd (cc)
size_small name (cell.Moment t) taken n is = absurd (cc)
size_small name (cell.Words s) taken n is = absurd (cc)

pub reads-numbers : ReadsNumbers numbers number_in
reads-numbers = record { none = refl; more = λ c cells. refl; small = number_small }

map_cons : (o : Option ℤ) (ns : List ℤ) → map size_of (cons_option o ns) ≡ cons_option (option_map size_of o) (map size_of ns)
map_cons None ns = refl
map_cons (Some n) ns = refl

pub reads-sizes : ReadsNumbers (λ cells. map size_of (numbers cells)) size_in
reads-sizes = record { none = refl; more = λ c cells. map_cons (number_in c) (numbers cells); small = size_small }

pub reads-counted : (f : SumForm) → ReadsNumbers (counted f) (counted_in f)
reads-counted form.Sum = reads-numbers
reads-counted form.AbsSum = reads-numbers
reads-counted form.SumAbs = reads-sizes
reads-counted form.Mean = reads-numbers
reads-counted form.Avg = reads-numbers

-- ---- one number more

abbrev pub one_if : Option ℤ → ℕ
one_if o = cond (is_some o) 1 0

sum-cons_option : (o : Option ℤ) (ns : List ℤ) → sum_of (cons_option o ns) ≡ plus (sum_of ns) o
sum-cons_option None ns = refl
sum-cons_option (Some n) ns = refl

length-cons_option : (o : Option ℤ) (ns : List ℤ) → length (cons_option o ns) ≡ length ns + one_if o
length-cons_option None ns = omega arith
length-cons_option (Some n) ns = omega arith

plus_swap : (s : ℤ) (o p : Option ℤ) → plus (plus s p) o ≡ plus (plus s o) p
plus_swap s None p = refl
plus_swap s (Some n) None = refl
plus_swap s (Some n) (Some m) = omega (arith, ints)

minus_plus : (s : ℤ) (o : Option ℤ) → minus (plus s o) o ≡ s
minus_plus s None = refl
minus_plus s (Some n) = omega (arith, ints)

one_at_most : (o : Option ℤ) (longer short cells : ℕ) → longer ≡ short + one_if o → short ≤ cells → longer ≤ suc cells
one_at_most None longer short cells e h = omega arith
one_at_most (Some n) longer short cells e h = omega arith

-- no farther from 0 than n cells' numbers together
abbrev IsWithin : ℕ → ℤ → Type 0
IsWithin n s = (neg_ℤ (pos ((2 ^ 53 - 1) * n)) ≤ℤ s) × (s ≤ℤ pos ((2 ^ 53 - 1) * n))

near : (n : ℕ) (s : ℤ) → n ≤ max_rows → IsWithin n s → IsInReach s
near n s few within = (let low = within.0 in omega (arith, ints), let high = within.1 in omega (arith, ints))

far_below : (n : ℕ) (s : ℤ) → n ≤ max_rows → IsWithin n s → IsSmallSum s
far_below n s few within = (let low = within.0 in omega (arith, ints), let high = within.1 in omega (arith, ints))

module _ (numbers_of : List Cell → List ℤ) (number_of : Cell → Option ℤ) (reads : ReadsNumbers numbers_of number_of) where
  sum_more : (c : Cell) (cells : List Cell) → sum_of (numbers_of (c ∷ cells)) ≡ plus (sum_of (numbers_of cells)) (number_of c)
  sum_more c cells = ap sum_of (reads.more c cells) ∙ sum-cons_option (number_of c) (numbers_of cells)

  count_more : (c : Cell) (cells : List Cell) → length (numbers_of (c ∷ cells)) ≡ length (numbers_of cells) + one_if (number_of c)
  count_more c cells = ap length (reads.more c cells) ∙ length-cons_option (number_of c) (numbers_of cells)

  sum-orderless : IsOrderless (λ cells. sum_of (numbers_of cells))
  sum-orderless = record {
    swap = λ a b cells.
        sum_more a (b ∷ cells) ∙ ap (λ s. plus s (number_of a)) (sum_more b cells) ∙ plus_swap (sum_of (numbers_of cells)) (number_of a) (number_of b)
        ∙ sym (ap (λ s. plus s (number_of b)) (sum_more a cells)) ∙ sym (sum_more b (a ∷ cells));
    more = λ a xs ys h. sum_more a xs ∙ ap (λ s. plus s (number_of a)) h ∙ sym (sum_more a ys);
  }

  count-orderless : IsOrderless (λ cells. length (numbers_of cells))
  count-orderless = record {
    swap = λ a b cells.
        let first = count_more a (b ∷ cells) in
        let second = count_more b cells in
        let third = count_more b (a ∷ cells) in
        let fourth = count_more a cells in
        omega arith;
    more = λ a xs ys h.
        let first = count_more a xs in
        let second = count_more a ys in
        omega arith;
  }

  count_within : (cells : List Cell) → length (numbers_of cells) ≤ length cells
  count_within [] = let none = ap length reads.none in omega arith
  count_within (c ∷ cells) =
      let more = count_more c cells in
      let within = count_within cells in
      one_at_most (number_of c) _ _ _ more within

  pub IsTotalOf-nil : (name : AggName) (sum : ℤ) (count : ℕ) → sum ≡ pos 0 → count ≡ 0 → IsTotalOf name numbers_of sum count []
  IsTotalOf-nil name sum count s n = record {
    are_pairs = ArePairs-nil name;
    sum_is = s ∙ sym (ap sum_of reads.none);
    count_is = n ∙ sym (ap length reads.none);
  }

  pub IsTotalOf-with_pair : (name : AggName) (sum : ℤ) (count : ℕ) (pairs : List (Cell × Cell)) (key c : Cell) → IsTotalOf name numbers_of sum count pairs → CanAdd name pairs key c
      → IsTotalOf name numbers_of (plus sum (number_of c)) (count + one_if (number_of c)) (with_pair pairs key c)
  IsTotalOf-with_pair name sum count pairs key c is can = record {
    are_pairs = ArePairs-with_pair name pairs key c is.are_pairs can;
    sum_is =
        ap (λ s. plus s (number_of c)) is.sum_is ∙ sym (sum_more c (cells_of pairs))
        ∙ sym (measure-with_pair (λ cells. sum_of (numbers_of cells)) sum-orderless pairs key c can.absent);
    count_is =
        ap (λ s. s + one_if (number_of c)) is.count_is ∙ sym (count_more c (cells_of pairs))
        ∙ sym (measure-with_pair (λ cells. length (numbers_of cells)) count-orderless pairs key c can.absent);
  }

  count_without : (count : ℕ) (pairs : List (Cell × Cell)) (key c : Cell) → count ≡ length (numbers_of (cells_of pairs)) → cell_at pairs key ≡ Some c
      → count ≡ length (numbers_of (cells_of (without_key pairs key))) + one_if (number_of c)
  count_without count pairs key c is there =
      is ∙ measure-without_key (λ cells. length (numbers_of cells)) count-orderless pairs key c there ∙ count_more c (cells_of (without_key pairs key))

  pub IsTotalOf-without_key : (name : AggName) (sum : ℤ) (count left : ℕ) (pairs : List (Cell × Cell)) (key c : Cell) → IsTotalOf name numbers_of sum count pairs → cell_at pairs key ≡ Some c
      → count ≡ left + one_if (number_of c) → IsTotalOf name numbers_of (minus sum (number_of c)) left (without_key pairs key)
  IsTotalOf-without_key name sum count left pairs key c is there counted = record {
    are_pairs = ArePairs-without_key name pairs key c is.are_pairs there;
    sum_is =
        ap (λ s. minus s (number_of c)) (is.sum_is ∙ measure-without_key (λ cells. sum_of (numbers_of cells)) sum-orderless pairs key c there
        ∙ sum_more c (cells_of (without_key pairs key))) ∙ minus_plus (sum_of (numbers_of (cells_of (without_key pairs key)))) (number_of c);
    count_is = let now = count_without count pairs key c is.count_is there in omega arith;
  }

  pub one_there : (name : AggName) (sum : ℤ) (count : ℕ) (pairs : List (Cell × Cell)) (key c : Cell) → IsTotalOf name numbers_of sum count pairs → cell_at pairs key ≡ Some c → one_if (number_of c) ≤ count
  one_there name sum count pairs key c is there =
      let now = count_without count pairs key c is.count_is there in omega arith

  pub count_has_room : (name : AggName) (sum : ℤ) (count : ℕ) (pairs : List (Cell × Cell)) → IsTotalOf name numbers_of sum count pairs → length pairs < max_rows → count < max_rows
  count_has_room name sum count pairs is room =
      let within = count_within (cells_of pairs) in
      let same = length-cells_of pairs in
      let count_is = is.count_is in
      omega arith

  sum_step : (o : Option ℤ) (s : ℤ) (n : ℕ) → ((m : ℤ) → o ≡ Some m → IsCellNumber m) → IsWithin n s → IsWithin (suc n) (plus s o)
  sum_step None s n small within = (let low = within.0 in omega (arith, ints), let high = within.1 in omega (arith, ints))
  sum_step (Some m) s n small within =
      let few = small m refl in
      (let low = within.0 in let least = few.0 in omega (arith, ints), let high = within.1 in let most = few.1 in omega (arith, ints))

  sum_within : (name : AggName) (cells : List Cell) → All (IsTaken name) cells → IsWithin (length cells) (sum_of (numbers_of cells))
  sum_within name [] taken = rw reads.none (omega (arith, ints), omega (arith, ints))
  sum_within name (c ∷ cells) taken =
      subst (IsWithin (suc (length cells))) (sym (sum_more c cells))
      (sum_step (number_of c) (sum_of (numbers_of cells)) (length cells) (reads.small name c (All-head (IsTaken name) c cells taken)) (sum_within name cells (All-tail (IsTaken name) c cells taken)))

  pub sum_small : (name : AggName) (pairs : List (Cell × Cell)) → ArePairs name pairs → IsSmallSum (sum_of (numbers_of (cells_of pairs)))
  sum_small name pairs are =
      far_below (length (cells_of pairs)) _ (let same = length-cells_of pairs in let few = are.few in omega arith) (sum_within name (cells_of pairs) are.taken)

  -- a sum stays far from the ends of 128 bits
  pub total_in_reach : (name : AggName) (sum : ℤ) (count : ℕ) (pairs : List (Cell × Cell)) → IsTotalOf name numbers_of sum count pairs → IsInReach sum
  total_in_reach name sum count pairs is =
      subst IsInReach (sym is.sum_is) (near (length (cells_of pairs)) _ (let same = length-cells_of pairs in let few = is.are_pairs.few in omega arith) (sum_within name (cells_of pairs) is.are_pairs.taken))

  -- ---- the same, in the words of the code: o is the number that it read

  pub sum_with : (name : AggName) (sum : ℤ) (count : ℕ) (key c : Cell) (o : Option ℤ) → o ≡ number_of c → ((pairs : List (Cell × Cell)) × IsTotalOf name numbers_of sum count pairs × CanAdd name pairs key c) → IsInReach (plus sum o)
  sum_with name sum count key c o is (pairs, total, can) =
      rw is (total_in_reach name _ _ _ (IsTotalOf-with_pair name sum count pairs key c total can))

  pub room_for : (name : AggName) (sum : ℤ) (count : ℕ) (key c : Cell) → ((pairs : List (Cell × Cell)) × IsTotalOf name numbers_of sum count pairs × CanAdd name pairs key c) → count < max_rows
  room_for name sum count key c (pairs, total, can) = count_has_room name sum count pairs total can.room

  pub total_with : (name : AggName) (sum : ℤ) (count : ℕ) (key c : Cell) (o : Option ℤ) (sum' : ℤ) (count' : ℕ) → o ≡ number_of c → sum' ≡ plus sum o → count' ≡ count + one_if o
      → (pairs : List (Cell × Cell)) → IsTotalOf name numbers_of sum count pairs → CanAdd name pairs key c → IsTotalOf name numbers_of sum' count' (with_pair pairs key c)
  total_with name sum count key c o sum' count' is sums counts pairs total can =
      let told = IsTotalOf-with_pair name sum count pairs key c total can in
      rw (sums, counts, is) told

  pub sum_without : (name : AggName) (sum : ℤ) (count : ℕ) (key c : Cell) (o : Option ℤ) → o ≡ number_of c → ((pairs : List (Cell × Cell)) × IsTotalOf name numbers_of sum count pairs × (cell_at pairs key ≡ Some c)) → IsInReach (minus sum o)
  sum_without name sum count key c o is (pairs, total, there) =
      let counted = count_without count pairs key c total.count_is there in
      rw is (total_in_reach name _ _ _ (IsTotalOf-without_key name sum count _ pairs key c total there counted))

  pub some_counted : (name : AggName) (sum : ℤ) (count : ℕ) (key c : Cell) (o : Option ℤ) → o ≡ number_of c → ((pairs : List (Cell × Cell)) × IsTotalOf name numbers_of sum count pairs × (cell_at pairs key ≡ Some c)) → one_if o ≤ count
  some_counted name sum count key c o is (pairs, total, there) = rw is (one_there name sum count pairs key c total there)

  pub total_without : (name : AggName) (sum : ℤ) (count : ℕ) (key c : Cell) (o : Option ℤ) (sum' : ℤ) (count' : ℕ) → o ≡ number_of c → sum' ≡ minus sum o → count ≡ count' + one_if o
      → (pairs : List (Cell × Cell)) → IsTotalOf name numbers_of sum count pairs → cell_at pairs key ≡ Some c → IsTotalOf name numbers_of sum' count' (without_key pairs key)
  total_without name sum count key c o sum' count' is sums counts pairs total there =
      let told = IsTotalOf-without_key name sum count count' pairs key c total there (counts ∙ ap (λ z. count' + one_if z) is) in
      rw (sums, is) told
