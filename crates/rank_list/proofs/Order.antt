-- An ascending list by the total order R, and the place of x in it.
use Rattle.std.proofs.Common.{◌≡◌, ℕ, zero, suc, ◌+◌, ◌≤◌, Bool, true, false, cond, List, [], ◌∷◌, ◌++◌, length, Some, None, refl, ap, sym, ◌∙◌, subst, arith, length-append, insert, remove, slice_get, Contains}
use Rattle.std.specs.List.{AllByRecursion}
use Rattle.std.specs.List.Sorted.{IsStrictlySortedBy}
use Rattle.std.specs.Cmp.{IsTotalOrder}
use Rattle.std.specs.Ordering.{is_lt, ordering_reverse}
use Rattle.std.specs.declared.cmp.Ordering.{Ordering}
use Rattle.std.specs.declared.cmp.Ordering.TheVariants.{Less, Equal, Greater}
use Rattle.std.proofs.lemmas.Cmp.{tied_itself}
use Rattle.std.proofs.lemmas.List.Sums.{sum_by-cons, count_by-le-length}
use Rattle.rank_list.specs.Place.{place_in}

-- ---- answers of an order

is_lt-other : (r : Ordering) → (r ≡ Less → ⊥) → is_lt r ≡ false
is_lt-other Less other = absurd (other refl)
is_lt-other Equal other = refl
is_lt-other Greater other = refl

pub Less-from_is_lt : (r : Ordering) → is_lt r ≡ true → r ≡ Less
Less-from_is_lt Less e = refl
Less-from_is_lt Equal e = cc
Less-from_is_lt Greater e = cc

pub not_Less-from_is_lt : (r : Ordering) → is_lt r ≡ false → r ≡ Less → ⊥
not_Less-from_is_lt Less e is = cc
not_Less-from_is_lt Equal e is = cc
not_Less-from_is_lt Greater e is = cc

not_before_itself : {T : Type 0} (R : T → T → Ordering) → IsTotalOrder R → (x : T) → R x x ≡ Less → ⊥
not_before_itself R o x less = let tied = tied_itself o x in cc

-- of two items of which neither stands before the other, and that tie only where they are one, each is the other
pub same_from_neither : {T : Type 0} (R : T → T → Ordering) → IsTotalOrder R → ((x y : T) → R x y ≡ Equal → x ≡ y) → (x y : T) → (R x y ≡ Less → ⊥) → (R y x ≡ Less → ⊥) → x ≡ y
same_from_neither R o exact x y other back =
    let P : Ordering → Type 0 = λ r. R x y ≡ r → x ≡ y in
    elim (R x y) as P [
      | Less ↦ λ e. absurd (other e)
      | Equal ↦ λ e. exact x y e
      | Greater ↦ λ e. absurd (back (o.antisymm y x ∙ ap ordering_reverse e))
    ] refl

before_from_other : {T : Type 0} (R : T → T → Ordering) → IsTotalOrder R → ((x y : T) → R x y ≡ Equal → x ≡ y) → (x y : T) → (R x y ≡ Less → ⊥) → (x ≡ y → ⊥) → R y x ≡ Less
before_from_other R o exact x y other differ =
    let P : Ordering → Type 0 = λ r. R x y ≡ r → R y x ≡ Less in
    elim (R x y) as P [
      | Less ↦ λ e. absurd (other e)
      | Equal ↦ λ e. absurd (differ (exact x y e))
      | Greater ↦ λ e. o.antisymm y x ∙ ap ordering_reverse e
    ] refl

-- y stands before x, or it does not
cases_before : {T : Type 0} (R : T → T → Ordering) (y x : T) (P : Type 0) → (R y x ≡ Less → P) → ((R y x ≡ Less → ⊥) → P) → P
cases_before R y x P holds other =
    let Q : Bool → Type 0 = λ b. is_lt (R y x) ≡ b → P in
    elim (is_lt (R y x)) as Q [ true ↦ λ e. holds (Less-from_is_lt _ e) | false ↦ λ e. other (not_Less-from_is_lt _ e) ] refl

-- ---- lists that ascend

all_front : {T : Type 0} (P : T → Type 0) (l m : List T) → AllByRecursion P (l ++ m) → AllByRecursion P l
all_front P [] m all = tt
all_front P (y ∷ l) m all = (all.0, all_front P l m all.1)

all_middle : {T : Type 0} (P : T → Type 0) (l : List T) (x : T) (r : List T) → AllByRecursion P (l ++ x ∷ r) → P x
all_middle P [] x r all = all.0
all_middle P (y ∷ l) x r all = all_middle P l x r all.1

all_map : {T : Type 0} (P Q : T → Type 0) → ((x : T) → P x → Q x) → (xs : List T) → AllByRecursion P xs → AllByRecursion Q xs
all_map P Q f [] all = tt
all_map P Q f (x ∷ xs) all = (f x all.0, all_map P Q f xs all.1)

pub all_insert : {T : Type 0} (P : T → Type 0) (xs : List T) (i : ℕ) (x : T) → AllByRecursion P xs → P x → AllByRecursion P (insert xs i x)
all_insert P [] zero x all p = (p, tt)
all_insert P [] (suc i) x all p = (p, tt)
all_insert P (y ∷ ys) zero x all p = (p, all)
all_insert P (y ∷ ys) (suc i) x all p = (all.0, all_insert P ys i x all.1 p)

pub all_remove : {T : Type 0} (P : T → Type 0) (xs : List T) (i : ℕ) → AllByRecursion P xs → AllByRecursion P (remove xs i)
all_remove P [] zero all = tt
all_remove P [] (suc i) all = tt
all_remove P (y ∷ ys) zero all = all.1
all_remove P (y ∷ ys) (suc i) all = (all.0, all_remove P ys i all.1)

pub sorted_nil : {T : Type 0} (R : T → T → Ordering) → IsStrictlySortedBy R []
unfolding IsStrictlySortedBy
sorted_nil R = tt

pub sorted_front : {T : Type 0} (R : T → T → Ordering) (l m : List T) → IsStrictlySortedBy R (l ++ m) → IsStrictlySortedBy R l
unfolding IsStrictlySortedBy
sorted_front R [] m s = tt
sorted_front R (y ∷ l) m s = (all_front _ l m s.0, sorted_front R l m s.1)

pub sorted_back : {T : Type 0} (R : T → T → Ordering) (l : List T) (x : T) (r : List T) → IsStrictlySortedBy R (l ++ x ∷ r) → IsStrictlySortedBy R r
unfolding IsStrictlySortedBy
sorted_back R [] x r s = s.1
sorted_back R (y ∷ l) x r s = sorted_back R l x r s.1

pub sorted_remove : {T : Type 0} (R : T → T → Ordering) (xs : List T) (i : ℕ) → IsStrictlySortedBy R xs → IsStrictlySortedBy R (remove xs i)
unfolding IsStrictlySortedBy
sorted_remove R [] zero s = tt
sorted_remove R [] (suc i) s = tt
sorted_remove R (y ∷ ys) zero s = s.1
sorted_remove R (y ∷ ys) (suc i) s = (all_remove _ ys i s.0, sorted_remove R ys i s.1)

-- ---- places

pub place_in-le-length : {T : Type 0} (R : T → T → Ordering) (xs : List T) (x : T) → place_in R xs x ≤ length xs
place_in-le-length R xs x = count_by-le-length (λ y. is_lt (R y x)) xs

place_in-cons : {T : Type 0} (R : T → T → Ordering) (y : T) (ys : List T) (x : T) → place_in R (y ∷ ys) x ≡ cond (is_lt (R y x)) 1 0 + place_in R ys x
place_in-cons R y ys x = sum_by-cons (λ z. cond (is_lt (R z x)) 1 0) y ys

place_before : {T : Type 0} (R : T → T → Ordering) (y : T) (ys : List T) (x : T) → R y x ≡ Less → place_in R (y ∷ ys) x ≡ suc (place_in R ys x)
place_before R y ys x less =
    let counted : cond {A = ℕ} (is_lt (R y x)) 1 0 ≡ 1 = ap (λ r. cond {A = ℕ} (is_lt r) 1 0) less in
    omega (arith, counted, place_in-cons R y ys x)

place_other : {T : Type 0} (R : T → T → Ordering) (y : T) (ys : List T) (x : T) → (R y x ≡ Less → ⊥) → place_in R (y ∷ ys) x ≡ place_in R ys x
place_other R y ys x other =
    let counted : cond {A = ℕ} (is_lt (R y x)) 1 0 ≡ 0 = ap (λ b. cond {A = ℕ} b 1 0) (is_lt-other (R y x) other) in
    omega (arith, counted, place_in-cons R y ys x)

-- no item that comes after one that does not stand before x stands before x
none_before : {T : Type 0} (R : T → T → Ordering) → IsTotalOrder R → (y x : T) → (R y x ≡ Less → ⊥) → (ys : List T) → AllByRecursion (λ z. R y z ≡ Less) ys → place_in R ys x ≡ 0
none_before R o y x other [] all = refl
none_before R o y x other (z ∷ zs) all = place_other R z zs x (λ less. other (o.trans y z x all.0 less)) ∙ none_before R o y x other zs all.1

pub place_stop : {T : Type 0} (R : T → T → Ordering) → IsTotalOrder R → (y : T) (ys : List T) (x : T) → IsStrictlySortedBy R (y ∷ ys) → (R y x ≡ Less → ⊥) → place_in R (y ∷ ys) x ≡ 0
unfolding IsStrictlySortedBy
place_stop R o y ys x s other = place_other R y ys x other ∙ none_before R o y x other ys s.0

pub place_right : {T : Type 0} (R : T → T → Ordering) → IsTotalOrder R → (l : List T) (y : T) (r : List T) (x : T) → IsStrictlySortedBy R (l ++ y ∷ r) → is_lt (R y x) ≡ true → place_in R (l ++ y ∷ r) x ≡ length l + 1 + place_in R r x
unfolding IsStrictlySortedBy
place_right R o [] y r x s less = omega (arith, place_before R y r x (Less-from_is_lt _ less))
place_right R o (z ∷ l) y r x s less =
    let before : R z x ≡ Less = o.trans z y x (all_middle _ l y r s.0) (Less-from_is_lt _ less) in
    omega (arith, place_before R z (l ++ y ∷ r) x before, place_right R o l y r x s.1 less)

pub place_left : {T : Type 0} (R : T → T → Ordering) → IsTotalOrder R → (l : List T) (y : T) (r : List T) (x : T) → IsStrictlySortedBy R (l ++ y ∷ r) → is_lt (R y x) ≡ false → place_in R (l ++ y ∷ r) x ≡ place_in R l x
unfolding IsStrictlySortedBy
place_left R o [] y r x s other = place_stop R o y r x s (not_Less-from_is_lt _ other)
place_left R o (z ∷ l) y r x s other = omega (arith, place_in-cons R z (l ++ y ∷ r) x, place_in-cons R z l x, place_left R o l y r x s.1 other)

-- ---- what is at the place of x

contains_cases : {T : Type 0} (y : T) (ys : List T) (x : T) (P : Type 0) → (y ≡ x → P) → (Contains ys x → P) → Contains (y ∷ ys) x → P
contains_cases y ys x P here later (zero, within, is) = here is
contains_cases y ys x P here later (suc k, within, is) = later (k, omega arith, is)

contains_later : {T : Type 0} (y : T) (ys : List T) (x : T) → Contains ys x → Contains (y ∷ ys) x
contains_later y ys x (k, within, is) = (suc k, omega arith, is)

all_contains : {T : Type 0} (P : T → Type 0) (xs : List T) (x : T) → AllByRecursion P xs → Contains xs x → P x
all_contains P [] x all (k, within, is) = absurd (omega arith)
all_contains P (y ∷ ys) x all there = contains_cases y ys x (P x) (λ e. subst P e all.0) (all_contains P ys x all.1) there

pub Contains-from_slice_get : {T : Type 0} (xs : List T) (i : ℕ) (x : T) → slice_get xs i ≡ Some x → Contains xs x
Contains-from_slice_get [] i x e = cc
Contains-from_slice_get (y ∷ ys) zero x e = (zero, omega arith, cc)
Contains-from_slice_get (y ∷ ys) (suc i) x e = contains_later y ys x (Contains-from_slice_get ys i x e)

pub slice_get-place_in : {T : Type 0} (R : T → T → Ordering) → IsTotalOrder R → (xs : List T) (x : T) → IsStrictlySortedBy R xs → Contains xs x → slice_get xs (place_in R xs x) ≡ Some x
unfolding IsStrictlySortedBy
slice_get-place_in R o [] x s (k, within, is) = absurd (omega arith)
slice_get-place_in R o (y ∷ ys) x s there =
    cases_before R y x _
    (λ less. rw (place_before R y ys x less) (contains_cases y ys x _ (λ e. absurd (not_before_itself R o x (subst (λ z. R z x ≡ Less) e less))) (slice_get-place_in R o ys x s.1) there))
    (λ other. rw (place_stop R o y ys x s other) (contains_cases y ys x _ (λ e. ap Some e) (λ later. absurd (other (all_contains _ ys x s.0 later))) there))

pub not_before-place_in : {T : Type 0} (R : T → T → Ordering) → IsTotalOrder R → (xs : List T) (x y : T) → IsStrictlySortedBy R xs → slice_get xs (place_in R xs x) ≡ Some y → R y x ≡ Less → ⊥
unfolding IsStrictlySortedBy
not_before-place_in R o [] x y s at less = cc
not_before-place_in R o (z ∷ zs) x y s at less =
    cases_before R z x _
    (λ before. not_before-place_in R o zs x y s.1 (subst (λ i. slice_get (z ∷ zs) i ≡ Some y) (place_before R z zs x before) at) less)
    (λ other. let first : Some z ≡ Some y = subst (λ i. slice_get (z ∷ zs) i ≡ Some y) (place_stop R o z zs x s other) at in let same : z ≡ y = cc in other (subst (λ w. R w x ≡ Less) (sym same) less))

-- what stands at the place of x, and does not come after x, is x
pub same-place_in : {T : Type 0} (R : T → T → Ordering) → IsTotalOrder R → ((x y : T) → R x y ≡ Equal → x ≡ y) → (xs : List T) (x y : T) → IsStrictlySortedBy R xs → slice_get xs (place_in R xs x) ≡ Some y → is_lt (R x y) ≡ false → x ≡ y
same-place_in R o exact xs x y s at after = same_from_neither R o exact x y (not_Less-from_is_lt _ after) (not_before-place_in R o xs x y s at)

pub absent_from_other : {T : Type 0} (R : T → T → Ordering) → IsTotalOrder R → (xs : List T) (x y : T) → IsStrictlySortedBy R xs → slice_get xs (place_in R xs x) ≡ Some y → is_lt (R x y) ≡ true → Contains xs x → ⊥
absent_from_other R o xs x y s at before there =
    let own = slice_get-place_in R o xs x s there in
    let same : x ≡ y = cc in
    not_before_itself R o x (subst (λ z. R x z ≡ Less) (sym same) (Less-from_is_lt _ before))

-- by way of the tree's items, which are xs
pub absent_at_end : {T : Type 0} (R : T → T → Ordering) → IsTotalOrder R → (xs tree : List T) (x : T) (place : ℕ) → tree ≡ xs → IsStrictlySortedBy R tree → place ≡ place_in R tree x → None ≡ slice_get tree place → Contains xs x → ⊥
absent_at_end R o xs tree x place is s place_is at there =
    let own = slice_get-place_in R o tree x s (subst (λ ys. Contains ys x) (sym is) there) in
    cc

pub slice_get-insert : {T : Type 0} (xs : List T) (i : ℕ) (x : T) → i ≤ length xs → slice_get (insert xs i x) i ≡ Some x
slice_get-insert [] zero x within = refl
slice_get-insert [] (suc i) x within = absurd (omega arith)
slice_get-insert (y ∷ ys) zero x within = refl
slice_get-insert (y ∷ ys) (suc i) x within = slice_get-insert ys i x (omega arith)

pub sorted_insert : {T : Type 0} (R : T → T → Ordering) → IsTotalOrder R → ((x y : T) → R x y ≡ Equal → x ≡ y) → (xs : List T) (x : T) → IsStrictlySortedBy R xs → (Contains xs x → ⊥) → IsStrictlySortedBy R (insert xs (place_in R xs x) x)
unfolding IsStrictlySortedBy
sorted_insert R o exact [] x s absent = (tt, tt)
sorted_insert R o exact (y ∷ ys) x s absent =
    let tail = sorted_insert R o exact ys x s.1 (λ there. absent (contains_later y ys x there)) in
    cases_before R y x _
    (λ less. rw (place_before R y ys x less) (all_insert _ ys (place_in R ys x) x s.0 less, tail))
    (λ other. let before : R x y ≡ Less = before_from_other R o exact y x other (λ e. absent (zero, omega arith, e)) in rw (place_stop R o y ys x s other) ((before, all_map _ _ (λ z later. o.trans x y z before later) ys s.0), s))

pub ruleset descent = (place_right, place_left, sorted_front, sorted_back, place_in-le-length, length-append)

pub ruleset presence = (same-place_in, absent_from_other, Contains-from_slice_get)

-- what x leaves once it stands in its place
pub record HasArrived {T : Type 0} (R : T → T → Ordering) (x : T) (place : ℕ) (new : List T) : Type 0 where
  pub ascending : IsStrictlySortedBy R new
  pub found : slice_get new place ≡ Some x

-- by way of the tree's items, which are xs, and the moved tree's
pub arrived : {T : Type 0} (R : T → T → Ordering) → IsTotalOrder R → ((x y : T) → R x y ≡ Equal → x ≡ y) → (xs tree moved : List T) (x y : T) (place : ℕ) (new : List T) → tree ≡ xs → moved ≡ tree → y ≡ x → IsStrictlySortedBy R tree → (Contains xs x → ⊥) → place ≡ place_in R tree x → new ≡ insert moved place y → HasArrived R x place new
arrived R o exact xs tree moved x y place new is moved_is y_is s absent place_is grown =
    let sorted : IsStrictlySortedBy R xs = subst (IsStrictlySortedBy R) is s in
    let at : place ≡ place_in R xs x = cc in
    let whole : new ≡ insert xs (place_in R xs x) x = cc in
    rw (whole, at) (record { ascending = sorted_insert R o exact xs x sorted absent; found = slice_get-insert xs (place_in R xs x) x (place_in-le-length R xs x) })
