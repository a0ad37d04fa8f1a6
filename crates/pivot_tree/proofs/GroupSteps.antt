-- Groups as rows come and go.
use Rattle.std.proofs.lemmas.Grind.{common_steps}
use Rattle.std.proofs.lemmas.List.{get_or-map, length-map}
use Rattle.std.specs.Prelude.{nat_eq}
use Rattle.std.proofs.lemmas.Bool.{eq-eqb}
use Rattle.value_core.specs.declared.value.Value.{Value}
use Rattle.plan_types.specs.declared.aggregate.AggName.{AggName}
use Rattle.agg_core.specs.Aggregates.{aggregate}
use Rattle.agg_core.specs.Any.{any_name}
use Rattle.std.proofs.Common.{◌≡◌, ℕ, zero, suc, Bool, true, false, Option, Some, None, add-one, ◌+◌, ◌<◌, List, [], ◌∷◌, ◌++◌, take, drop, length, get_or, All, refl, sym, ap, ◌∙◌, subst, arith}
use Rattle.std.specs.List.{AllZip}
use Rattle.std.proofs.lemmas.List.Elements.{All-nil, All-cons, All-head, All-tail}
use Rattle.row_batch.specs.declared.batch.Pair.{Pair}
use Rattle.plan_types.specs.declared.plan.Named.{Named}
use Rattle.pivot_tree.specs.Columns.{aggregate_in}
use Rattle.pivot_tree.specs.Groups.{CanHold, CanPut, HasRow, Holds, Takes, cells_in, names_of, named_of, with_row, without_row}
use Rattle.pivot_tree.specs.declared.column.ColumnAggregate.{ColumnAggregate}

pub record AddStep (p : Pair) (h j : ColumnAggregate) : Type 0 where
  pub used : named_of j ≡ named_of h
  pub holds : (rows : List Pair) → Holds rows h → CanHold (named_of h) rows p → Holds (with_row rows p) j

pub record TakeStep (p : Pair) (h j : ColumnAggregate) : Type 0 where
  pub used : named_of j ≡ named_of h
  pub holds : (rows : List Pair) → Holds rows h → HasRow rows p → Holds (without_row rows p) j

pub names-added : (p : Pair) (old new : List ColumnAggregate) → AllZip (AddStep p) old new → names_of new ≡ names_of old
names-added p [] [] z = refl
names-added p [] (y ∷ ys) z = elim z [ ]
names-added p (x ∷ xs) [] z = elim z [ ]
names-added p (x ∷ xs) (y ∷ ys) z = λ i. z.0.used i ∷ names-added p xs ys z.1 i

pub names-taken : (p : Pair) (old new : List ColumnAggregate) → AllZip (TakeStep p) old new → names_of new ≡ names_of old
names-taken p [] [] z = refl
names-taken p [] (y ∷ ys) z = elim z [ ]
names-taken p (x ∷ xs) [] z = elim z [ ]
names-taken p (x ∷ xs) (y ∷ ys) z = λ i. z.0.used i ∷ names-taken p xs ys z.1 i

pub each-added : (p : Pair) (rows : List Pair) (old new : List ColumnAggregate) → AllZip (AddStep p) old new → All (Holds rows) old → CanPut (names_of old) rows p → All (Holds (with_row rows p)) new
each-added p rows [] [] z all can = All-nil (Holds (with_row rows p))
each-added p rows [] (y ∷ ys) z all can = elim z [ ]
each-added p rows (x ∷ xs) [] z all can = elim z [ ]
each-added p rows (x ∷ xs) (y ∷ ys) z all can =
    All-cons (Holds (with_row rows p)) y ys
    (z.0.holds rows (All-head (Holds rows) x xs all) (record { absent = can.absent; room = can.room; taken = All-head (Takes p) (named_of x) (names_of xs) can.taken }))
    (each-added p rows xs ys z.1 (All-tail (Holds rows) x xs all) (record { absent = can.absent; room = can.room; taken = All-tail (Takes p) (named_of x) (names_of xs) can.taken }))

pub each-taken : (p : Pair) (rows : List Pair) (old new : List ColumnAggregate) → AllZip (TakeStep p) old new → All (Holds rows) old → HasRow rows p → All (Holds (without_row rows p)) new
each-taken p rows [] [] z all has = All-nil (Holds (without_row rows p))
each-taken p rows [] (y ∷ ys) z all has = elim z [ ]
each-taken p rows (x ∷ xs) [] z all has = elim z [ ]
each-taken p rows (x ∷ xs) (y ∷ ys) z all has =
    All-cons (Holds (without_row rows p)) y ys (z.0.holds rows (All-head (Holds rows) x xs all) has)
    (each-taken p rows xs ys z.1 (All-tail (Holds rows) x xs all) has)

-- ---- one column's aggregate among all

takes_at : (p : Pair) (held : List ColumnAggregate) (i : ℕ) (h : ColumnAggregate) → i < length held → All (Takes p) (names_of held) → Takes p (named_of (get_or held i h))
takes_at p held i h lt all =
    subst (Takes p) (get_or-map named_of held i h (named_of h) lt) (all i (named_of h) (subst (λ n. i < n) (sym (length-map held named_of)) lt))

pub add_may : (p : Pair) (olds items : List ColumnAggregate) (i : ℕ) (h : ColumnAggregate) → i < length olds → get_or items i h ≡ get_or olds i h
    → (rows : List Pair) × All (Holds rows) olds × CanPut (names_of olds) rows p
    → (rows : List Pair) × Holds rows (get_or items i h) × CanHold (named_of (get_or items i h)) rows p
add_may p olds items i h lt same r =
    subst (λ (j : ColumnAggregate). (rows : List Pair) × Holds rows j × CanHold (named_of j) rows p) (sym same)
    (r.0, r.1 i h lt, record { absent = r.2.absent; room = r.2.room; taken = takes_at p olds i h lt r.2.taken })

pub take_may : (p : Pair) (olds items : List ColumnAggregate) (i : ℕ) (h : ColumnAggregate) → i < length olds → get_or items i h ≡ get_or olds i h
    → (rows : List Pair) × All (Holds rows) olds × HasRow rows p
    → (rows : List Pair) × Holds rows (get_or items i h) × HasRow rows p
take_may p olds items i h lt same r =
    subst (λ (j : ColumnAggregate). (rows : List Pair) × Holds rows j × HasRow rows p) (sym same) (r.0, r.1 i h lt, r.2)

-- what a slice of the whole vector leaves in it
pub whole : (n : ℕ) (xs ys : List ColumnAggregate) → length xs ≡ length ys → n ≡ length ys → take n (xs ++ drop (length xs) ys) ≡ xs
whole n xs ys same is = grind (arith, common_steps)

-- ---- the first of some columns

found_step : (column : ℕ) (x : ColumnAggregate) (hs : List ColumnAggregate) (i : ℕ) (h : ColumnAggregate) (b : Bool) → nat_eq column x.column ≡ b → aggregate_in (names_of (take (suc i) (x ∷ hs))) column ≡ None
    → (aggregate_in (names_of (take i hs)) column ≡ None → aggregate_in (names_of hs) column ≡ Some (any_name (get_or hs i h).aggregate))
    → aggregate_in (names_of (x ∷ hs)) column ≡ Some (any_name (get_or hs i h).aggregate)
found_step column x hs i h true at none later = absurd (let wrong : Some (any_name x.aggregate) ≡ None = rw at at none in cc)
found_step column x hs i h false at none later = rw at (later (rw at at none))

pub found : (column : ℕ) (hs : List ColumnAggregate) (i : ℕ) (h : ColumnAggregate) → i < length hs → aggregate_in (names_of (take i hs)) column ≡ None → nat_eq column (get_or hs i h).column ≡ true
    → aggregate_in (names_of hs) column ≡ Some (any_name (get_or hs i h).aggregate)
found column [] i h lt none one = absurd (omega arith)
found column (x ∷ hs) zero h lt none one = rw one refl
found column (x ∷ hs) (suc i) h lt none one =
    found_step column x hs i h (nat_eq column x.column) refl none (λ later. found column hs i h (omega arith) later one)

none_step : (column : ℕ) (x : ColumnAggregate) (hs : List ColumnAggregate) (i : ℕ) (b : Bool) → nat_eq column x.column ≡ b → aggregate_in (names_of (take (suc i) (x ∷ hs))) column ≡ None
    → (aggregate_in (names_of (take i hs)) column ≡ None → aggregate_in (names_of (take (suc i) hs)) column ≡ None)
    → aggregate_in (names_of (x ∷ take (suc i) hs)) column ≡ None
none_step column x hs i true at none later = absurd (let wrong : Some (any_name x.aggregate) ≡ None = rw at at none in cc)
none_step column x hs i false at none later = rw at (later (rw at at none))

none_next : (column : ℕ) (hs : List ColumnAggregate) (i : ℕ) (h : ColumnAggregate) → i < length hs → aggregate_in (names_of (take i hs)) column ≡ None → nat_eq column (get_or hs i h).column ≡ false
    → aggregate_in (names_of (take (suc i) hs)) column ≡ None
none_next column [] i h lt none apart = absurd (omega arith)
none_next column (x ∷ hs) zero h lt none apart = rw apart refl
none_next column (x ∷ hs) (suc i) h lt none apart =
    none_step column x hs i (nat_eq column x.column) refl none (λ later. none_next column hs i h (omega arith) later apart)

pub none_more : (column : ℕ) (hs : List ColumnAggregate) (i : ℕ) (h : ColumnAggregate) → i < length hs → aggregate_in (names_of (take i hs)) column ≡ None → nat_eq column (get_or hs i h).column ≡ false
    → aggregate_in (names_of (take (i + 1) hs)) column ≡ None
none_more column hs i h lt none apart = rw add-one (none_next column hs i h lt none apart)

pub value_found : (column : ℕ) (used : List Named) (rows : List Pair) (name : AggName) (hs : List ColumnAggregate) (i : ℕ) (h : ColumnAggregate) (value : Option Value) → i < length hs
    → aggregate_in (names_of (take i hs)) column ≡ None → h ≡ get_or hs i h → h.column ≡ column → names_of hs ≡ used → All (Holds rows) hs → aggregate_in used column ≡ Some name
    → (Holds rows h → value ≡ aggregate (any_name h.aggregate) (cells_in h.column rows)) → value ≡ aggregate name (cells_in column rows)
value_found column used rows name hs i h value lt none read col names each has gives =
    let one : nat_eq column (get_or hs i h).column ≡ true = eq-eqb column (get_or hs i h).column (sym col ∙ ap (λ (j : ColumnAggregate). j.column) read) in
    let first = found column hs i h lt none one in
    let both : Some name ≡ Some (any_name h.aggregate) =
    sym has ∙ ap (λ us. aggregate_in us column) (sym names) ∙ first ∙ ap (λ (j : ColumnAggregate). Some (any_name j.aggregate)) (sym read) in
    let name_is : any_name h.aggregate ≡ name = cc in
    gives (subst (Holds rows) (sym read) (each i h lt)) ∙ (λ j. aggregate (name_is j) (cells_in (col j) rows))

pub none_found : (column : ℕ) (used : List Named) (rows : List Pair) (name : AggName) (hs : List ColumnAggregate) (i : ℕ) (h : ColumnAggregate) (of : AggName) (value : Option Value) → i < length hs
    → aggregate_in (names_of (take i hs)) column ≡ None → h ≡ get_or hs i h → h.column ≡ column → names_of hs ≡ used → aggregate_in used column ≡ Some name
    → of ≡ any_name h.aggregate → value ≡ aggregate of [] → value ≡ aggregate name []
none_found column used rows name hs i h of value lt none read col names has of_is gives =
    let one : nat_eq column (get_or hs i h).column ≡ true = eq-eqb column (get_or hs i h).column (sym col ∙ ap (λ (j : ColumnAggregate). j.column) read) in
    let first = found column hs i h lt none one in
    let both : Some name ≡ Some (any_name h.aggregate) =
    sym has ∙ ap (λ us. aggregate_in us column) (sym names) ∙ first ∙ ap (λ (j : ColumnAggregate). Some (any_name j.aggregate)) (sym read) in
    let name_is : of ≡ name = cc in
    gives ∙ ap (λ n. aggregate n []) name_is
