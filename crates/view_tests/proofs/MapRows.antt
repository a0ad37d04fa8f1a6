-- The rows of a map as rows come and go.
use Rattle.std.proofs.Common.{◌≡◌, ◌≢◌, ℕ, zero, suc, ◌<◌, length, get_or, arith, Bool, true, false, List, [], ◌∷◌, All, None, Ordering, Less, Equal, Greater, refl, sym, ap, ◌∙◌, subst}
use Rattle.std.specs.BTreeMap.{insert_entry}
use Rattle.std.specs.List.Sorted.{IsStrictlySortedBy}
use Rattle.std.specs.Map.{lookup, remove_entry}
use Rattle.std.specs.Ordering.{is_eq}
use Rattle.std.specs.Prelude.{IsTrue}
use Rattle.std.proofs.lemmas.List.{length-map}
use Rattle.std.proofs.lemmas.List.Elements.{All-nil, All-cons, All-head, All-tail, All-from_recursion, All-weaker}
use Rattle.std.proofs.lemmas.Map.Keys.{sorted_head, sorted_tail}
use Rattle.cell_core.proofs.CellOrder as order
use Rattle.cell_core.specs.Cells.{cell_order, same_cell}
use Rattle.cell_core.specs.Limits.{max_rows}
use Rattle.cell_core.specs.declared.cell.Cell.{Cell}
use Rattle.cell_core.specs.declared.cell.Cell.TheVariants as cell
use Rattle.cell_core.specs.declared.cell.CellType.TheVariants as kinds
use Rattle.cell_core.specs.declared.schema.Column.{Column}
use Rattle.place_order.specs.PlaceLaws.{is_equal}
use Rattle.plan_types.specs.declared.aggregate.AggName.{AggName}
use Rattle.plan_types.specs.declared.aggregate.AggName.TheVariants as name
use Rattle.plan_types.specs.declared.plan.Plan.{Plan}
use Rattle.row_batch.specs.Batches.{pair_of}
use Rattle.row_batch.specs.Changes.{entries_of, row_at}
use Rattle.row_batch.specs.declared.batch.Pair.{Pair}
use Rattle.agg_core.proofs.Cells.{same_itself}
use Rattle.agg_core.specs.Types.{IsTaken, takes}
use Rattle.view_spec.specs.Columns.{aggregate_at}
use Rattle.view_spec.specs.Filters.{cell_in}
use Rattle.view_spec.specs.Kept.{by_key}
use Rattle.pivot_tree.specs.Columns.{used_columns}
use Rattle.pivot_tree.specs.Groups.{HasRow, IsApart, with_row, without_row}
use Rattle.pivot_tree.specs.Laws.{MissingKeysAreApart}
use Rattle.pivot_tree.specs.Trees.{AreRows, CanAddRow}
use Rattle.pivot_tree.proofs.Rows.{without_row-is}
use Rattle.view_tests.specs.Rows.{IsNumber, rows_of}

abbrev Entries : Type 0
Entries = List (Cell × List Cell)

entries_of-rows_of : (es : Entries) → entries_of (rows_of es) ≡ es
entries_of-rows_of [] = refl
entries_of-rows_of (e ∷ es) = ap (λ (rest : Entries). e ∷ rest) (entries_of-rows_of es)

pub row_at-rows_of : (es : Entries) (key : Cell) → row_at (rows_of es) key ≡ lookup (same_cell key) es
row_at-rows_of es key = ap (lookup (same_cell key)) (entries_of-rows_of es)

-- ---- a row that is put in

with_step : (key : Cell) (row : List Cell) (e : Cell × List Cell) (es : Entries) (o : Ordering) → cell_order key e.0 ≡ o → same_cell key e.0 ≡ false
    → with_row (rows_of es) (pair_of key row) ≡ rows_of (insert_entry cell_order es key row)
    → with_row (rows_of (e ∷ es)) (pair_of key row) ≡ rows_of (insert_entry cell_order (e ∷ es) key row)
with_step key row e es Less at apart later = rw at refl
with_step key row e es Equal at apart later = absurd (let wrong : true ≡ false = rw at at apart in cc)
with_step key row e es Greater at apart later = rw at (ap (λ (rs : List Pair). pair_of e.0 e.1 ∷ rs) later)

pub with_row-rows_of : (es : Entries) (key : Cell) (row : List Cell) → IsApart key (rows_of es) → with_row (rows_of es) (pair_of key row) ≡ rows_of (insert_entry cell_order es key row)
with_row-rows_of [] key row h = refl
with_row-rows_of (e ∷ es) key row h =
    with_step key row e es (cell_order key e.0) refl (All-head (λ (q : Pair). same_cell key q.key ≡ false) (pair_of e.0 e.1) (rows_of es) h)
    (with_row-rows_of es key row (All-tail (λ (q : Pair). same_cell key q.key ≡ false) (pair_of e.0 e.1) (rows_of es) h))

-- ---- a row that is taken out

-- the first of the rows
without_first : (key : Cell) (row : List Cell) (e : Cell × List Cell) (es : Entries) → same_cell key e.0 ≡ true → IsStrictlySortedBy by_key (rows_of (e ∷ es))
    → without_row (rows_of (e ∷ es)) (pair_of key row) ≡ rows_of es
without_first key row e es at up =
    let key_is : key ≡ e.0 = order.exact key e.0 (is_equal _ at) in
    let first : Pair = pair_of e.0 e.1 in
    let behind : All (λ r. by_key first r ≡ Less) (rows_of es) = All-from_recursion (λ r. by_key first r ≡ Less) (rows_of es) (sorted_head by_key first (rows_of es) up) in
    let has : HasRow (rows_of (e ∷ es)) first = record {
      before = [];
      behind = rows_of es;
      is = refl;
      apart_before = All-nil (λ (r : Pair). same_cell e.0 r.key ≡ false);
      apart_behind = All-weaker (λ r. by_key first r ≡ Less) (λ (r : Pair). same_cell e.0 r.key ≡ false) (λ r less. ap is_eq less) (rows_of es) behind;
    } in
    ap (λ k. without_row (rows_of (e ∷ es)) (pair_of k row)) key_is ∙ without_row-is (rows_of (e ∷ es)) first has

without_step : (key : Cell) (row : List Cell) (e : Cell × List Cell) (es : Entries) (b : Bool) → same_cell key e.0 ≡ b → IsStrictlySortedBy by_key (rows_of (e ∷ es))
    → without_row (rows_of es) (pair_of key row) ≡ rows_of (remove_entry (same_cell key) es)
    → without_row (rows_of (e ∷ es)) (pair_of key row) ≡ rows_of (remove_entry (same_cell key) (e ∷ es))
without_step key row e es true at up later = rw at (rw at at (without_first key row e es at up))
without_step key row e es false at up later = rw at (ap (λ (rs : List Pair). pair_of e.0 e.1 ∷ rs) later)

pub without_row-rows_of : (es : Entries) (key : Cell) (row : List Cell) → IsStrictlySortedBy by_key (rows_of es) → without_row (rows_of es) (pair_of key row) ≡ rows_of (remove_entry (same_cell key) es)
without_row-rows_of [] key row up = refl
without_row-rows_of (e ∷ es) key row up =
    without_step key row e es (same_cell key e.0) refl up (without_row-rows_of es key row (sorted_tail by_key (pair_of e.0 e.1) (rows_of es) up))

-- ---- cells that every aggregate takes

takes_numbers : (a : AggName) → IsTrue (takes a kinds.Integer)
takes_numbers name.Sum = refl
takes_numbers name.AbsSum = refl
takes_numbers name.SumAbs = refl
takes_numbers name.Count = refl
takes_numbers name.DistinctCount = refl
takes_numbers name.Mean = refl
takes_numbers name.Avg = refl
takes_numbers name.Min = refl
takes_numbers name.Max = refl
takes_numbers name.Unique = refl
takes_numbers name.First = refl
takes_numbers name.Last = refl
takes_numbers name.Dominant = refl
takes_numbers name.Median = refl

number_taken : (a : AggName) (c : Cell) → IsNumber c → IsTaken a c
number_taken a cell.Null h = tt
number_taken a (cell.Int n) h = (takes_numbers a, h)
number_taken a (cell.Bool b) h = absurd h
number_taken a (cell.Date d) h = absurd h
number_taken a (cell.Moment t) h = absurd h
number_taken a (cell.Words s) h = absurd h

taken_in : (a : AggName) (row : List Cell) (i : ℕ) → All IsNumber row → IsTaken a (cell_in row i)
taken_in a [] i h = tt
taken_in a (c ∷ cs) zero h = number_taken a c (All-head IsNumber c cs h)
taken_in a (c ∷ cs) (suc i) h = taken_in a cs i (All-tail IsNumber c cs h)

abbrev AreTaken : List Column → Plan → List Cell → Type 0
AreTaken columns plan row = All (λ i. IsTaken (aggregate_at columns plan i) (cell_in row i)) (used_columns plan)

are_taken : (columns : List Column) (plan : Plan) (row : List Cell) → All IsNumber row → AreTaken columns plan row
are_taken columns plan row h = λ k d lt. taken_in (aggregate_at columns plan (get_or (used_columns plan) k d)) row (get_or (used_columns plan) k d) h

-- ---- rows that a tree may take in

pub can_add : (columns : List Column) (plan : Plan) (es : Entries) (key : Cell) (row : List Cell) → MissingKeysAreApart → lookup (same_cell key) es ≡ None → length es < max_rows → All IsNumber row
    → CanAddRow columns plan (rows_of es) (pair_of key row)
can_add columns plan es key row missing none room numbers = record {
  absent = missing (rows_of es) key (row_at-rows_of es key ∙ none);
  room = subst (λ n. n < max_rows) (sym (length-map es (λ e. pair_of e.0 e.1))) room;
  taken = are_taken columns plan row numbers;
}

differ : (a b : Cell) → is_eq (cell_order a b) ≡ false → a ≢ b
differ a b apart same = absurd (let wrong : true ≡ false = sym (same_itself a) ∙ ap (same_cell a) same ∙ apart in cc)

pub two_rows : (columns : List Column) (plan : Plan) (p q : Pair) → is_eq (cell_order p.key q.key) ≡ false → All IsNumber p.row → All IsNumber q.row → AreRows columns plan (p ∷ q ∷ [])
two_rows columns plan p q apart numbers others =
    let P : Pair → Type 0 = λ p. AreTaken columns plan p.row in
    record {
      apart = (All-cons (λ (y : Cell). y ≢ p.key) q.key [] (λ same. differ p.key q.key apart (sym same)) (All-nil (λ (y : Cell). y ≢ p.key)), (All-nil (λ (y : Cell). y ≢ q.key), tt));
      few = omega arith;
      taken = All-cons P p (q ∷ []) (are_taken columns plan p.row numbers) (All-cons P q [] (are_taken columns plan q.row others) (All-nil P));
    }
