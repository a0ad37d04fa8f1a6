-- What stands under keys in a list, and where.
use Rattle.std.proofs.Common.{◌≡◌, ◌≢◌, ℕ, zero, suc, ◌+◌, ◌<◌, Bool, true, false, cond, List, [], ◌∷◌, ◌++◌, length, map, get_or, take, All, Option, Some, None, refl, sym, ◌∙◌, ap, subst, add-one, arith, slice_get}
use Rattle.std.specs.List.{AllByRecursion, IsDistinct}
use Rattle.std.specs.Map.{lookup}
use Rattle.std.specs.Option.{option_map}
use Rattle.std.proofs.lemmas.List.{take_more, length-take-le}
use Rattle.std.proofs.lemmas.List.Elements.{All-head, All-tail}
use Rattle.std.proofs.lemmas.Option.{same_Some}
use Rattle.view_types.specs.Keys.{same_key}
use Rattle.view_types.specs.declared.key.ViewKey.{ViewKey}
use Rattle.view_types.specs.declared.shown.ShownRow.{ShownRow}
use Rattle.view_types.proofs.KeyOrder.{same_key_is_equal, same_key_itself, same_key-symm}
use Rattle.delta_core.specs.Rows.{at_key, position_of, row_at}
use Rattle.key_map.specs.Keyed.{GivesPositions, index_of, same_by}

-- ---- all items

pub all_get : {X : Type 0} (P : X → Type 0) (xs : List X) (i : ℕ) (x : X) → AllByRecursion P xs → slice_get xs i ≡ Some x → P x
all_get P [] i x all is = absurd (let wrong : None ≡ Some x = is in cc)
all_get P (y ∷ xs) zero x all is = subst P (same_Some y x is) all.0
all_get P (y ∷ xs) (suc i) x all is = all_get P xs i x all.1 is

pub none_parts : {X : Type 0} (b : Bool) (y : X) (o : Option X) → cond b (Some y) o ≡ None → (b ≡ false) × (o ≡ None)
none_parts true y o h = absurd (let wrong : Some y ≡ None = h in cc)
none_parts false y o h = (refl, h)

pub all_from_none : {X : Type 0} (key : X → ViewKey) (k : ViewKey) (xs : List X) → at_key key k xs ≡ None → AllByRecursion (λ z. same_key k (key z) ≡ false) xs
all_from_none key k [] none = tt
all_from_none key k (y ∷ xs) none =
    let parts = none_parts (same_key (key y) k) y (at_key key k xs) none in
    (same_key-symm k (key y) ∙ parts.0, all_from_none key k xs parts.1)

pub none_from_all : {X : Type 0} (key : X → ViewKey) (k : ViewKey) (xs : List X) → AllByRecursion (λ z. same_key k (key z) ≡ false) xs → at_key key k xs ≡ None
none_from_all key k [] all = refl
none_from_all key k (y ∷ xs) all = ap (λ b. cond b (Some y) (at_key key k xs)) (same_key-symm (key y) k ∙ all.0) ∙ none_from_all key k xs all.1

-- ---- one item

pub at_key-there : {X : Type 0} (key : X → ViewKey) (xs : List X) (i : ℕ) (x : X) → IsDistinct (same_by key) xs → slice_get xs i ≡ Some x → at_key key (key x) xs ≡ Some x
unfolding IsDistinct
at_key-there key [] i x s is = absurd (let wrong : None ≡ Some x = is in cc)
at_key-there key (y ∷ xs) zero x s is =
    let same : y ≡ x = same_Some y x is in
    ap (λ b. cond b (Some y) (at_key key (key x) xs)) (ap (λ z. same_key (key z) (key x)) same ∙ same_key_itself (key x)) ∙ is
at_key-there key (y ∷ xs) (suc i) x s is =
    ap (λ b. cond b (Some y) (at_key key (key x) xs)) (all_get (λ z. same_key (key y) (key z) ≡ false) xs i x s.0 is) ∙ at_key-there key xs i x s.1 is

pub at_key-key : {X : Type 0} (key : X → ViewKey) (k : ViewKey) (xs : List X) (x : X) → at_key key k xs ≡ Some x → key x ≡ k
at_key-key key k [] x is = absurd (let wrong : None ≡ Some x = is in cc)
at_key-key {X} key k (y ∷ xs) x is = by (same_key (key y) k) refl is (λ later. at_key-key key k xs x later)
  where
    by : (b : Bool) → same_key (key y) k ≡ b → cond b (Some y) (at_key key k xs) ≡ Some x → (at_key key k xs ≡ Some x → key x ≡ k) → key x ≡ k
    by true same is more = ap key (sym (same_Some y x is)) ∙ same_key_is_equal (key y) k same
    by false same is more = more is

-- somewhere in the list
pub somewhere : {X : Type 0} (key : X → ViewKey) (k : ViewKey) (xs : List X) (x : X) → at_key key k xs ≡ Some x → (i : ℕ) × (slice_get xs i ≡ Some x)
somewhere key k [] x is = absurd (let wrong : None ≡ Some x = is in cc)
somewhere {X} key k (y ∷ xs) x is = by (same_key (key y) k) is (λ later. somewhere key k xs x later)
  where
    by : (b : Bool) → cond b (Some y) (at_key key k xs) ≡ Some x → (at_key key k xs ≡ Some x → (i : ℕ) × (slice_get xs i ≡ Some x)) → (i : ℕ) × (slice_get (y ∷ xs) i ≡ Some x)
    by true is more = (0, is)
    by false is more = let later = more is in (suc later.0, later.1)

-- ---- positions

pub index_of-there : {X : Type 0} (key : X → ViewKey) (xs : List X) (i : ℕ) (x : X) → IsDistinct (same_by key) xs → slice_get xs i ≡ Some x → index_of key (key x) xs ≡ Some i
unfolding IsDistinct
index_of-there key [] i x s is = absurd (let wrong : None ≡ Some x = is in cc)
index_of-there key (y ∷ xs) zero x s is =
    let same : y ≡ x = same_Some y x is in
    ap (λ b. cond b (Some 0) (option_map (λ n. n + 1) (index_of key (key x) xs))) (ap (λ z. same_key (key z) (key x)) same ∙ same_key_itself (key x))
index_of-there key (y ∷ xs) (suc i) x s is =
    ap (λ b. cond b (Some 0) (option_map (λ n. n + 1) (index_of key (key x) xs))) (all_get (λ z. same_key (key y) (key z) ≡ false) xs i x s.0 is)
    ∙ ap (option_map (λ n. n + 1)) (index_of-there key xs i x s.1 is) ∙ ap Some (let e : i + 1 ≡ suc i = omega arith in e)

pub index_of-none : {X : Type 0} (key : X → ViewKey) (k : ViewKey) (xs : List X) → at_key key k xs ≡ None → index_of key k xs ≡ None
index_of-none key k [] none = refl
index_of-none key k (y ∷ xs) none =
    let parts = none_parts (same_key (key y) k) y (at_key key k xs) none in
    ap (λ b. cond b (Some 0) (option_map (λ n. n + 1) (index_of key k xs))) parts.0 ∙ ap (option_map (λ n. n + 1)) (index_of-none key k xs parts.1)

-- the item that an index picks
abbrev pub pick : {X : Type 0} → List X → Option ℕ → Option X
pick xs None = None
pick xs (Some i) = slice_get xs i

pick_later : {X : Type 0} (y : X) (xs : List X) (o : Option ℕ) → pick xs o ≡ pick (y ∷ xs) (option_map (λ n. n + 1) o)
pick_later y xs None = refl
pick_later y xs (Some n) = ap (slice_get (y ∷ xs)) (let e : suc n ≡ n + 1 = omega arith in e)

pub picked : {X : Type 0} (key : X → ViewKey) (k : ViewKey) (xs : List X) → at_key key k xs ≡ pick xs (index_of key k xs)
picked key k [] = refl
picked {X} key k (y ∷ xs) = by (same_key (key y) k) (picked key k xs ∙ pick_later y xs (index_of key k xs))
  where
    by : (b : Bool) → at_key key k xs ≡ pick (y ∷ xs) (option_map (λ n. n + 1) (index_of key k xs))
        → cond b (Some y) (at_key key k xs) ≡ pick (y ∷ xs) (cond b (Some 0) (option_map (λ n. n + 1) (index_of key k xs)))
    by true later = refl
    by false later = later

-- ---- the rows that are shown of items

pub row_at-shown : {X : Type 0} (shown : X → ShownRow) (k : ViewKey) (xs : List X) → option_map shown (at_key (λ x. (shown x).key) k xs) ≡ row_at k (map shown xs)
row_at-shown shown k [] = refl
row_at-shown {X} shown k (x ∷ xs) = by (same_key (shown x).key k) (row_at-shown shown k xs)
  where
    by : (b : Bool) → option_map shown (at_key (λ x. (shown x).key) k xs) ≡ row_at k (map shown xs)
        → option_map shown (cond b (Some x) (at_key (λ x. (shown x).key) k xs)) ≡ cond b (Some (shown x)) (row_at k (map shown xs))
    by true later = refl
    by false later = later

pub position_of-shown : {X : Type 0} (shown : X → ShownRow) (k : ViewKey) (xs : List X) → index_of (λ x. (shown x).key) k xs ≡ position_of k (map shown xs)
position_of-shown shown k [] = refl
position_of-shown shown k (x ∷ xs) = ap (λ o. cond (same_key (shown x).key k) (Some 0) (option_map (λ i. i + 1) o)) (position_of-shown shown k xs)

-- ---- a map of positions

-- an item behind items with other keys
index_of-last : {X : Type 0} (key : X → ViewKey) (k : ViewKey) (xs : List X) (x : X) → All (λ y. key x ≢ key y) xs
    → index_of key k (xs ++ x ∷ []) ≡ cond (same_key (key x) k) (Some (length xs)) (index_of key k xs)
index_of-last key k [] x apart = refl
index_of-last key k (y ∷ xs) x apart = by (same_key (key y) k) (same_key (key x) k) refl refl (index_of-last key k xs x (All-tail (λ y. key x ≢ key y) y xs apart))
  where
    by : (a b : Bool) → same_key (key y) k ≡ a → same_key (key x) k ≡ b → index_of key k (xs ++ x ∷ []) ≡ cond b (Some (length xs)) (index_of key k xs)
        → cond a (Some 0) (option_map (λ i. i + 1) (index_of key k (xs ++ x ∷ []))) ≡ cond b (Some (length (y ∷ xs))) (cond a (Some 0) (option_map (λ i. i + 1) (index_of key k xs)))
    by true true here last later =
        let same : key x ≡ key y = same_key_is_equal (key x) k last ∙ sym (same_key_is_equal (key y) k here) in
        absurd (All-head (λ y. key x ≢ key y) y xs apart same)
    by true false here last later = refl
    by false true here last later = ap (option_map (λ i. i + 1)) later ∙ ap Some (add-one (length xs))
    by false false here last later = ap (option_map (λ i. i + 1)) later

-- a loop's step
pub positions_more : {X : Type 0} (key : X → ViewKey) (xs : List X) (i : ℕ) (d : X) (old new : List (ViewKey × ℕ)) → i < length xs → All (λ y. key (get_or xs i d) ≢ key y) (take i xs)
    → GivesPositions key old (take i xs) → ((q : ViewKey) → lookup (same_key q) new ≡ cond (same_key (key (get_or xs i d)) q) (Some i) (lookup (same_key q) old))
    → GivesPositions key new (take (i + 1) xs)
positions_more {X} key xs i d old new within apart gives puts q =
    let x : X = get_or xs i d in
    let count : length (take i xs) ≡ i = length-take-le i xs (omega arith) in
    puts q
    ∙ ap (cond (same_key (key x) q) (Some i)) (gives q)
    ∙ ap (λ n. cond (same_key (key x) q) (Some n) (index_of key q (take i xs))) (sym count)
    ∙ sym (index_of-last key q (take i xs) x apart)
    ∙ ap (index_of key q) (sym (take_more xs i d within))
