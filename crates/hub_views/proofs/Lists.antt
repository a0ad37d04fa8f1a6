-- Lists of which each item is kept, dropped or changed.
use Rattle.std.proofs.Common.{◌≡◌, ℕ, suc, zero, ◌<◌, ltb, position, Bool, true, false, cond, List, [], ◌∷◌, ◌++◌, length, map, filter, find, get_or, All, Some, None, option_map, refl, sym, ap, ◌∙◌, arith}
use Rattle.std.specs.Prelude.{is_some}
use Rattle.std.specs.List.{list_any, position_or_len}
use Rattle.std.proofs.lemmas.Bool.Decides.{nat_tests}
use Rattle.std.proofs.lemmas.List.Elements.{All-from_get_or, All-head, All-tail}
use Rattle.std.proofs.lemmas.List.Sums.{fails_before_first}

pub map_same : {X Y : Type 0} (f g : X → Y) (xs : List X) → All (λ x. f x ≡ g x) xs → map f xs ≡ map g xs
map_same f g [] same = refl
map_same f g (x ∷ xs) same =
    ap (λ y. y ∷ map f xs) (All-head (λ z. f z ≡ g z) x xs same) ∙ ap (λ ys. g x ∷ ys) (map_same f g xs (All-tail (λ z. f z ≡ g z) x xs same))

pub filter-map : {X Y : Type 0} (test : Y → Bool) (f : X → Y) (xs : List X) → filter test (map f xs) ≡ map f (filter (λ x. test (f x)) xs)
filter-map test f [] = refl
filter-map test f (x ∷ xs) = by (test (f x)) (filter-map test f xs)
  where
    by : (b : Bool) → filter test (map f xs) ≡ map f (filter (λ z. test (f z)) xs)
        → cond b (f x ∷ filter test (map f xs)) (filter test (map f xs)) ≡ map f (cond b (x ∷ filter (λ z. test (f z)) xs) (filter (λ z. test (f z)) xs))
    by true later = ap (λ ys. f x ∷ ys) later
    by false later = later

pub find-map : {X Y : Type 0} (test : Y → Bool) (f : X → Y) (xs : List X) → find test (map f xs) ≡ option_map f (find (λ x. test (f x)) xs)
find-map test f [] = refl
find-map test f (x ∷ xs) = by (test (f x)) (find-map test f xs)
  where
    by : (b : Bool) → find test (map f xs) ≡ option_map f (find (λ z. test (f z)) xs)
        → cond b (Some (f x)) (find test (map f xs)) ≡ option_map f (cond b (Some x) (find (λ z. test (f z)) xs))
    by true later = refl
    by false later = later

-- what is found passes
pub found_passes : {X : Type 0} (test : X → Bool) (xs : List X) (y : X) → find test xs ≡ Some y → test y ≡ true
found_passes test [] y e = absurd (let wrong : None ≡ Some y = e in cc)
found_passes test (x ∷ xs) y e = by (test x) refl e (found_passes test xs y)
  where
    by : (b : Bool) → test x ≡ b → cond b (Some x) (find test xs) ≡ Some y → (find test xs ≡ Some y → test y ≡ true) → test y ≡ true
    by true is here later = let same : x ≡ y = cc in ap test (sym same) ∙ is
    by false is here later = later here

pub none_passes : {X : Type 0} (test : X → Bool) (xs : List X) → All (λ x. test x ≡ false) xs → list_any test xs ≡ false
none_passes test [] none = refl
none_passes test (x ∷ xs) none = rw (All-head (λ y. test y ≡ false) x xs none) (none_passes test xs (All-tail (λ y. test y ≡ false) x xs none))

past_end : (b : Bool) (n : ℕ) → cond b (Some n) None ≡ None → b ≡ false
past_end true n h = absurd (let wrong : Some n ≡ None = h in cc)
past_end false n h = refl

all_fail : {X : Type 0} (test : X → Bool) (xs : List X) → All (λ x. test x ≡ false) xs → find test xs ≡ None
all_fail test [] all = refl
all_fail test (x ∷ xs) all = rw (All-head (λ y. test y ≡ false) x xs all) (all_fail test xs (All-tail (λ y. test y ≡ false) x xs all))

-- where no item has a place, none is found
pub none_placed : {X : Type 0} (test : X → Bool) (xs : List X) → position test xs ≡ None → find test xs ≡ None
none_placed test [] none = refl
none_placed test (x ∷ xs) none =
    let past : ltb (position_or_len test (x ∷ xs)) (length (x ∷ xs)) ≡ false = past_end _ _ none in
    all_fail test (x ∷ xs) (All-from_get_or (λ y. test y ≡ false) (x ∷ xs) x
    (λ k lt. fails_before_first test (x ∷ xs) k x (grind (arith, nat_tests, past, lt))))

-- where an item passes, one is found
pub found_if : {X : Type 0} (test : X → Bool) (xs : List X) (k : ℕ) (d : X) → k < length xs → test (get_or xs k d) ≡ true → is_some (find test xs) ≡ true
found_if test [] k d lt here = absurd (omega arith)
found_if test (x ∷ xs) zero d lt here = rw here refl
found_if test (x ∷ xs) (suc k) d lt here = by (test x) (found_if test xs k d (omega arith) here)
  where
    by : (b : Bool) → is_some (find test xs) ≡ true → is_some (cond b (Some x) (find test xs)) ≡ true
    by true later = refl
    by false later = later

-- and it is found in a longer list
pub found_more : {X : Type 0} (test : X → Bool) (xs ys : List X) → is_some (find test xs) ≡ true → is_some (find test (xs ++ ys)) ≡ true
found_more test [] ys some = absurd (let wrong : false ≡ true = some in cc)
found_more test (x ∷ xs) ys some = by (test x) some (found_more test xs ys)
  where
    by : (b : Bool) → is_some (cond b (Some x) (find test xs)) ≡ true → (is_some (find test xs) ≡ true → is_some (find test (xs ++ ys)) ≡ true)
        → is_some (cond b (Some x) (find test (xs ++ ys))) ≡ true
    by true here later = refl
    by false here later = later here

pub found_last : {X : Type 0} (test : X → Bool) (xs : List X) (y : X) → test y ≡ true → is_some (find test (xs ++ y ∷ [])) ≡ true
found_last test [] y here = rw here refl
found_last test (x ∷ xs) y here = by (test x) (found_last test xs y here)
  where
    by : (b : Bool) → is_some (find test (xs ++ y ∷ [])) ≡ true → is_some (cond b (Some x) (find test (xs ++ y ∷ []))) ≡ true
    by true later = refl
    by false later = later
