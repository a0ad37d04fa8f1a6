-- The aggregates of the columns that a plan uses, column by column.
use Rattle.std.proofs.Common.{◌≡◌, ℕ, ◌+◌, ◌<◌, Bool, true, false, List, [], ◌∷◌, ◌++◌, append_assoc, map, take, get_or, length, Option, Some, None, refl, sym, ap, ◌∙◌, subst}
use Rattle.std.specs.Prelude.{◌||◌, All, nat_eq, if◌then◌else◌}
use Rattle.std.specs.Option.{is_some}
use Rattle.std.proofs.lemmas.List.{map-append, take_more}
use Rattle.std.proofs.lemmas.Bool.{eq-eqb, eqb-true}
use Rattle.std.proofs.lemmas.List.Elements.{All-nil, All-cons, All-append, All-head, All-tail, All-weaker}
use Rattle.std.proofs.lemmas.List.Folds.{list_any-append}
use Rattle.cell_core.specs.declared.schema.Column.{Column}
use Rattle.plan_types.specs.declared.aggregate.AggName.{AggName}
use Rattle.plan_types.specs.declared.plan.Named.{Named}
use Rattle.plan_types.specs.declared.plan.Plan.{Plan}
use Rattle.plan_types.specs.declared.plan.Sort.{Sort}
use Rattle.view_spec.specs.Columns.{aggregate_at}
use Rattle.pivot_tree.specs.Columns.{HaveAggregates, aggregate_in, is_among}

-- ---- look-ups among named aggregates

pub some_stays : (us vs : List Named) (i : ℕ) (a : AggName) → aggregate_in us i ≡ Some a → aggregate_in (us ++ vs) i ≡ Some a
some_stays [] vs i a h = absurd (cc)
some_stays (u ∷ us) vs i a h = by (nat_eq i u.column) h (some_stays us vs i a)
  where
    by : (b : Bool) → (if b then Some u.aggregate else aggregate_in us i) ≡ Some a → (aggregate_in us i ≡ Some a → aggregate_in (us ++ vs) i ≡ Some a)
        → (if b then Some u.aggregate else aggregate_in (us ++ vs) i) ≡ Some a
    by true h later = h
    by false h later = later h

pub none_before : (us vs : List Named) (i : ℕ) → aggregate_in us i ≡ None → aggregate_in (us ++ vs) i ≡ aggregate_in vs i
none_before [] vs i h = refl
none_before (u ∷ us) vs i h = by (nat_eq i u.column) h (none_before us vs i)
  where
    by : (b : Bool) → (if b then Some u.aggregate else aggregate_in us i) ≡ None → (aggregate_in us i ≡ None → aggregate_in (us ++ vs) i ≡ aggregate_in vs i)
        → (if b then Some u.aggregate else aggregate_in (us ++ vs) i) ≡ aggregate_in vs i
    by true h later = absurd (cc)
    by false h later = later h

-- ---- numbers among numbers

or_cases : {P : Type 0} (a b : Bool) → (a || b) ≡ true → (a ≡ true → P) → (b ≡ true → P) → P
or_cases true b h left right = left refl
or_cases false b h left right = right h

or_left : (a b : Bool) → a ≡ true → (a || b) ≡ true
or_left true b h = refl
or_left false b h = absurd (cc)

or_right : (a b : Bool) → b ≡ true → (a || b) ≡ true
or_right true b h = refl
or_right false b h = h

or_false : (a : Bool) → (a || false) ≡ a
or_false true = refl
or_false false = refl

pub among_before : (numbers more : List ℕ) (i : ℕ) → is_among numbers i ≡ true → is_among (numbers ++ more) i ≡ true
among_before numbers more i h = list_any-append (nat_eq i) numbers more ∙ or_left (is_among numbers i) (is_among more i) h

pub among_last : (numbers : List ℕ) (i : ℕ) → is_among (numbers ++ i ∷ []) i ≡ true
among_last numbers i =
    list_any-append (nat_eq i) numbers (i ∷ []) ∙ or_right (is_among numbers i) (is_among (i ∷ []) i) (ap (λ b. b || false) (same i))
  where
    same : (n : ℕ) → nat_eq n n ≡ true
    same n = eq-eqb n n refl

-- a number that is among these and one more is among these, or that one
pub among_cases : {P : Type 0} (numbers : List ℕ) (column i : ℕ) → is_among (numbers ++ column ∷ []) i ≡ true → (is_among numbers i ≡ true → P) → (i ≡ column → P) → P
among_cases numbers column i h before last =
    or_cases (is_among numbers i) (is_among (column ∷ []) i) (sym (list_any-append (nat_eq i) numbers (column ∷ [])) ∙ h) before
    (λ one. last (eqb-true i column (sym (or_false (nat_eq i column)) ∙ one)))

-- ---- one column more

module _ (columns : List Column) (plan : Plan) (numbers : List ℕ) (column : ℕ) (used : List Named) (is : HaveAggregates columns plan numbers used) where
  -- what is said of each aggregate among some columns
  abbrev IsOf : List ℕ → Named → Type 0
  IsOf ns u = (is_among ns u.column ≡ true) × (u.aggregate ≡ aggregate_at columns plan u.column)

  still : All (IsOf (numbers ++ column ∷ [])) used
  still = All-weaker (IsOf numbers) (IsOf (numbers ++ column ∷ [])) (λ u h. (among_before numbers (column ∷ []) u.column h.0, h.1)) used is.only

  found_is : (us : List Named) (i : ℕ) (a : AggName) → All (IsOf numbers) us → aggregate_in us i ≡ Some a → a ≡ aggregate_at columns plan i
  found_is [] i a all h = absurd (cc)
  found_is (u ∷ us) i a all h = by (nat_eq i u.column) refl h (found_is us i a (All-tail (IsOf numbers) u us all))
    where
      by : (b : Bool) → nat_eq i u.column ≡ b → (if b then Some u.aggregate else aggregate_in us i) ≡ Some a → (aggregate_in us i ≡ Some a → a ≡ aggregate_at columns plan i)
          → a ≡ aggregate_at columns plan i
      by true at h later =
          let same : u.aggregate ≡ a = cc in
          sym same ∙ (All-head (IsOf numbers) u us all).1 ∙ ap (aggregate_at columns plan) (sym (eqb-true i u.column at))
      by false at h later = later h

  -- the column is there
  pub HaveAggregates-there : (a : AggName) → aggregate_in used column ≡ Some a → HaveAggregates columns plan (numbers ++ column ∷ []) used
  HaveAggregates-there a there = record {
    has = λ i among. among_cases numbers column i among (is.has i)
        (λ e. subst (λ j. aggregate_in used j ≡ Some (aggregate_at columns plan j)) (sym e) (there ∙ ap (λ n. Some n) (found_is used column a is.only there)));
    only = still;
  }

  -- it is put to the others
  pub HaveAggregates-more : (u : Named) → u.column ≡ column → u.aggregate ≡ aggregate_at columns plan column → aggregate_in used column ≡ None
      → HaveAggregates columns plan (numbers ++ column ∷ []) (used ++ u ∷ [])
  HaveAggregates-more u column_is aggregate_is none = record {
    has = λ i among. among_cases numbers column i among
        (λ before. some_stays used (u ∷ []) i (aggregate_at columns plan i) (is.has i before))
        (λ e. subst (λ j. aggregate_in (used ++ u ∷ []) j ≡ Some (aggregate_at columns plan j)) (sym e) (none_before used (u ∷ []) column none ∙ one));
    only = All-append (IsOf (numbers ++ column ∷ [])) used (u ∷ []) still
        (All-cons (IsOf (numbers ++ column ∷ [])) u []
        (subst (λ j. is_among (numbers ++ column ∷ []) j ≡ true) (sym column_is) (among_last numbers column), aggregate_is ∙ ap (aggregate_at columns plan) (sym column_is))
        (All-nil (IsOf (numbers ++ column ∷ []))));
  }
    where
      one : aggregate_in (u ∷ []) column ≡ Some (aggregate_at columns plan column)
      one = ap (λ b. if b then Some u.aggregate else None) (eq-eqb column u.column (sym column_is)) ∙ ap (λ n. Some n) aggregate_is

  pub HaveAggregates-kept : (o : Option AggName) → o ≡ aggregate_in used column → is_some o ≡ true → HaveAggregates columns plan (numbers ++ column ∷ []) used
  HaveAggregates-kept None read some = absurd (cc)
  HaveAggregates-kept (Some a) read some = HaveAggregates-there a (sym read)

  pub HaveAggregates-put : (o : Option AggName) → o ≡ aggregate_in used column → is_some o ≡ false → (a : AggName) → a ≡ aggregate_at columns plan column
      → (after : List Named) → after ≡ used ++ record { column = column; aggregate = a } ∷ [] → HaveAggregates columns plan (numbers ++ column ∷ []) after
  HaveAggregates-put None read none a is after pushed =
      subst (HaveAggregates columns plan (numbers ++ column ∷ [])) (sym pushed) (HaveAggregates-more (record { column = column; aggregate = a }) refl is (sym read))
  HaveAggregates-put (Some b) read none a is after pushed = absurd (cc)

-- ---- one number after another

pub next_number : (items numbers : List ℕ) (i : ℕ) → items ≡ numbers → i < length items → take i numbers ++ get_or items i 0 ∷ [] ≡ take (i + 1) numbers
next_number items numbers i same lt =
    subst (λ ns. take i ns ++ get_or items i 0 ∷ [] ≡ take (i + 1) ns) same (sym (take_more items i 0 lt))

pub next_sort : (numbers : List ℕ) (items sorts : List Sort) (i : ℕ) (s : Sort) → items ≡ sorts → i < length items
    → (numbers ++ map (λ (s : Sort). s.column) (take i sorts)) ++ (get_or items i s).column ∷ [] ≡ numbers ++ map (λ (s : Sort). s.column) (take (i + 1) sorts)
next_sort numbers items sorts i s same lt =
    append_assoc numbers (map (λ (s : Sort). s.column) (take i sorts)) ((get_or items i s).column ∷ [])
    ∙ ap (λ ns. numbers ++ ns) (subst (λ ss. map (λ (s : Sort). s.column) (take i ss) ++ (get_or items i s).column ∷ [] ≡ map (λ (s : Sort). s.column) (take (i + 1) ss)) same
    (sym (ap (map (λ (s : Sort). s.column)) (take_more items i s lt) ∙ map-append (λ (s : Sort). s.column) (take i items) (get_or items i s ∷ []))))
